-- Sets that gain documents, and what they are in the end.
use Rattle.std.proofs.Common.{◌≡◌, ℕ, ◌+◌, ◌<◌, Bool, false, ◌||◌, List, [], ◌∷◌, ◌++◌, length, map, get_or, take, replicate, refl, sym, ap, ◌∙◌, arith}
use Rattle.std.specs.List.{list_any, range_with_len}
use Rattle.std.proofs.lemmas.List.{get_or-replicate, length-replicate, map-id}
use Rattle.std.proofs.lemmas.Simd.{map-map}
use Rattle.std.proofs.lemmas.List.Folds.{list_any_more, list_any-append}
use Rattle.std.proofs.lemmas.List.FromFn.{fill_by_all, get_or-map-range_with_len, length-map-range_with_len, map-range_with_len_more}
use Rattle.segment.specs.Flat.{FlatDocument, flat_of, flats_of}
use Rattle.segment_parts.specs.declared.columns.Columns.{Columns}
use Rattle.leaf_search.specs.Sets.{Gains}
use Rattle.leaf_search.proofs.Tests.{or_false, or_assoc}

-- the same test, said otherwise
pub gains_same : (c : Columns) (p q : FlatDocument → Bool) (old new : List Bool) → ((d : FlatDocument) → p d ≡ q d) → Gains c p old new → Gains c q old new
gains_same c p q old new same gains = record {
  long = gains.long;
  marked = λ doc inside. gains.marked doc inside ∙ ap (λ (b : Bool). get_or old doc false || b) (same (flat_of c doc));
}

pub gains_none : (c : Columns) (p : FlatDocument → Bool) (old : List Bool) → ((d : FlatDocument) → p d ≡ false) → Gains c p old old
gains_none c p old never = record {
  long = refl;
  marked = λ doc inside. sym (ap (λ (b : Bool). get_or old doc false || b) (never (flat_of c doc)) ∙ or_false (get_or old doc false));
}

-- one gain after the other
pub gains_both : (c : Columns) (p q : FlatDocument → Bool) (old now new : List Bool) → Gains c p old now → Gains c q now new → Gains c (λ d. p d || q d) old new
gains_both c p q old now new one other = record {
  long = other.long ∙ one.long;
  marked = λ doc inside.
      other.marked doc (omega (arith, one.long))
      ∙ ap (λ (b : Bool). b || q (flat_of c doc)) (one.marked doc inside)
      ∙ or_assoc (get_or old doc false) (p (flat_of c doc)) (q (flat_of c doc));
}

-- a loop over a list of things, for each of which there is a gain
module _ {X : Type 0} where
  pub gains_more : (c : Columns) (p : FlatDocument → X → Bool) (xs : List X) (at : ℕ) (x : X) (old now new : List Bool) → at < length xs → get_or xs at x ≡ x
      → Gains c (λ d. list_any (p d) (take at xs)) old now → Gains c (λ d. p d x) now new → Gains c (λ d. list_any (p d) (take (at + 1) xs)) old new
  gains_more c p xs at x old now new inside is was own =
      gains_same c (λ d. list_any (p d) (take at xs) || p d x) (λ d. list_any (p d) (take (at + 1) xs)) old new
      (λ d. sym (list_any_more (p d) xs at x inside ∙ ap (λ (y : X). list_any (p d) (take at xs) || p d y) is))
      (gains_both c (λ d. list_any (p d) (take at xs)) (λ d. p d x) old now new was own)

-- from an empty set
pub gained : (c : Columns) (p : FlatDocument → Bool) (set : List Bool) → Gains c p (replicate c.documents false) set → set ≡ map p (flats_of c)
gained c p set gains =
    let empty : length (replicate c.documents false) ≡ c.documents = length-replicate c.documents false in
    fill_by_all (λ doc. p (flat_of c doc)) set c.documents false (gains.long ∙ empty)
    (λ doc below. gains.marked doc (omega (arith, empty)) ∙ ap (λ (b : Bool). b || p (flat_of c doc)) (get_or-replicate c.documents doc false false below))
    ∙ sym (map-map p (flat_of c) (range_with_len 0 c.documents))

range_more : (n : ℕ) → range_with_len 0 (n + 1) ≡ range_with_len 0 n ++ n ∷ []
range_more n =
    sym (map-id (range_with_len 0 (n + 1)))
    ∙ map-range_with_len_more (λ (k : ℕ). k) 0 n n (omega arith)
    ∙ ap (λ (l : List ℕ). l ++ n ∷ []) (map-id (range_with_len 0 n))

-- a loop over the numbers from 0 on
pub gains_next : (c : Columns) (p : FlatDocument → ℕ → Bool) (at : ℕ) (old now new : List Bool)
    → Gains c (λ d. list_any (p d) (range_with_len 0 at)) old now → Gains c (λ d. p d at) now new → Gains c (λ d. list_any (p d) (range_with_len 0 (at + 1))) old new
gains_next c p at old now new was own =
    gains_same c (λ d. list_any (p d) (range_with_len 0 at) || p d at) (λ d. list_any (p d) (range_with_len 0 (at + 1))) old new
    (λ d. sym (ap (list_any (p d)) (range_more at) ∙ list_any-append (p d) (range_with_len 0 at) (at ∷ []) ∙ ap (λ (b : Bool). list_any (p d) (range_with_len 0 at) || b) (or_false (p d at))))
    (gains_both c (λ d. list_any (p d) (range_with_len 0 at)) (λ d. p d at) old now new was own)

-- a step without a gain
pub gains_kept : (c : Columns) (p : FlatDocument → ℕ → Bool) (at : ℕ) (old now : List Bool) → ((d : FlatDocument) → p d at ≡ false)
    → Gains c (λ d. list_any (p d) (range_with_len 0 at)) old now → Gains c (λ d. list_any (p d) (range_with_len 0 (at + 1))) old now
gains_kept c p at old now never was = gains_next c p at old now now was (gains_none c (λ d. p d at) now never)

-- a set of exactly the documents that pass
pub record Has (columns : Columns) (test : FlatDocument → Bool) (set : List Bool) : Type 0 where
  pub long : length set ≡ columns.documents
  pub marked : (doc : ℕ) → doc < columns.documents → get_or set doc false ≡ test (flat_of columns doc)

pub has_all : (c : Columns) (p : FlatDocument → Bool) (set : List Bool) → Has c p set → set ≡ map p (flats_of c)
has_all c p set has =
    fill_by_all (λ doc. p (flat_of c doc)) set c.documents false has.long has.marked
    ∙ sym (map-map p (flat_of c) (range_with_len 0 c.documents))

pub has_from : (c : Columns) (p : FlatDocument → Bool) (set : List Bool) → set ≡ map p (flats_of c) → Has c p set
has_from c p set is =
    let same : set ≡ map (λ doc. p (flat_of c doc)) (range_with_len 0 c.documents) = is ∙ map-map p (flat_of c) (range_with_len 0 c.documents) in
    record {
      long = ap length same ∙ length-map-range_with_len (λ doc. p (flat_of c doc)) 0 c.documents;
      marked = λ doc below. ap (λ (s : List Bool). get_or s doc false) same ∙ get_or-map-range_with_len (λ doc. p (flat_of c doc)) 0 c.documents doc doc false below (omega arith);
    }
