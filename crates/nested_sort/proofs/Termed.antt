-- From the terms of a range to the numbers that documents have.
use Rattle.std.specs.Prelude.{◌≡◌, ℕ, zero, suc, ◌+◌, ◌<◌, ◌≤◌, ◌==◌, ℤ, ◌<ℤ◌, Bool, true, false, ◌&&◌, ◌||◌, not, List, [], ◌∷◌, length, map, get_or, slice_get, Option, Some, FitsSigned, refl}
use Rattle.std.specs.Int.{w64}
use Rattle.std.specs.List.{All, AllByRecursion, list_any}
use Rattle.std.specs.Ordering.{MatchOrdering, int_cmp, is_le, is_lt}
use Rattle.std.specs.declared.cmp.Ordering.{Ordering}
use Rattle.std.specs.declared.cmp.Ordering.TheVariants.{Less, Equal, Greater}
use Rattle.std.proofs.Common.{arith, ap, ltb-false, ltb-true, nat_lt, sym, ◌∙◌}
use Rattle.std.proofs.lemmas.Bool.{or_parts}
use Rattle.std.proofs.lemmas.Cmp.{int_ranked}
use Rattle.std.proofs.lemmas.Int.{ints}
use Rattle.std.proofs.lemmas.List.Elements.{recursion_from_All}
use Rattle.doc_values.specs.Values.{values_of}
use Rattle.postings.specs.Marks.{has_document}
use Rattle.segment.specs.Flat.{FlatDocument, flat_of}
use Rattle.segment.specs.Shows.{has_term, is_keyword_of, is_number_of, posts}
use Rattle.segment_parts.specs.Lists.{postings_of, terms_of}
use Rattle.segment_parts.specs.declared.columns.Columns.{Columns}
use Rattle.term_table.specs.Keys.{number_key}
use Rattle.term_table.specs.Ranges.{IsRange}
use Rattle.term_table.specs.declared.rows.TermRow.{TermRow}
use Rattle.nested_sort.proofs.Alike.{by_test}

-- ---- postings that are no document's

none_posted : (doc : ℕ) (passes : ℕ × List ℕ → Bool) (rows : List TermRow) → ((at : ℕ) (row : TermRow) → slice_get rows at ≡ Some row → passes row.term ≡ true → has_document doc row.postings ≡ false)
    → list_any (λ (row : TermRow). passes row.term && has_document doc row.postings) rows ≡ false
none_posted doc passes [] fails = refl
none_posted doc passes (row ∷ rows) fails =
    let rest = none_posted doc passes rows (λ at own is. fails (suc at) own is) in
    by_test (passes row.term)
    (λ yes. let no = fails 0 row refl yes in rw (yes, no) rest)
    (λ no. rw no rest)

term_there : (rows : List TermRow) (at : ℕ) (row : TermRow) → slice_get rows at ≡ Some row → slice_get (map (λ (row : TermRow). row.term) rows) at ≡ Some row.term
term_there [] at row is = absurd (let bad : ⊥ = cc in bad)
term_there (r ∷ rows) zero row is = ap (λ (o : Option TermRow). slice_get (map (λ (row : TermRow). row.term) (r ∷ rows)) 0) is ∙ (let same : r ≡ row = cc in ap (λ (t : TermRow). Some t.term) same)
term_there (r ∷ rows) (suc at) row is = term_there rows at row is

postings_there : (rows : List TermRow) (at : ℕ) (row : TermRow) → slice_get rows at ≡ Some row → get_or (map (λ (row : TermRow). row.postings) rows) at [] ≡ row.postings
postings_there [] at row is = absurd (let bad : ⊥ = cc in bad)
postings_there (r ∷ rows) zero row is = let same : r ≡ row = cc in ap (λ (t : TermRow). t.postings) same
postings_there (r ∷ rows) (suc at) row is = postings_there rows at row is

-- the lists of these ordinals have been put into a set
pub record ArePut (lists : List (List (ℕ × List ℕ))) (documents first at : ℕ) (set : List Bool) : Type 0 where
  pub long : length set ≡ documents
  pub put : (ordinal doc : ℕ) → first ≤ ordinal → ordinal < at → doc < documents → get_or set doc false ≡ false → has_document doc (get_or lists ordinal []) ≡ false

pub put_none : (lists : List (List (ℕ × List ℕ))) (documents first : ℕ) (set : List Bool) → length set ≡ documents → ArePut lists documents first first set
put_none lists documents first set long = record {
  long = long;
  put = λ ordinal doc from before low no. absurd (omega (arith, from, before));
}

pub put_more : (lists : List (List (ℕ × List ℕ))) (documents first at : ℕ) (old new : List Bool) → ArePut lists documents first at old → length new ≡ length old
    → ((doc : ℕ) → doc < length old → get_or new doc false ≡ (get_or old doc false || has_document doc (get_or lists at []))) → ArePut lists documents first (at + 1) new
put_more lists documents first at old new was long marked = record {
  long = long ∙ was.long;
  put = λ ordinal doc from before low no.
      let both = sym (marked doc (omega (arith, was.long, low))) ∙ no in
      let parts = or_parts (get_or old doc false) (has_document doc (get_or lists at [])) both in
      by_test (nat_lt ordinal at)
      (λ here. was.put ordinal doc from (ltb-true ordinal at here) low parts.0)
      (λ there.
      let is : ordinal ≡ at = omega (arith, before, ltb-false ordinal at there) in
      ap (λ (n : ℕ). has_document doc (get_or lists n [])) is ∙ parts.1);
}

-- the documents of terms between edges are there
pub none_left : (c : Columns) (field first end at : ℕ) (test : List ℕ → Bool) (doc : ℕ) (set : List Bool)
    → list_any (posts field doc test) c.terms ≡ has_term field test (flat_of c doc)
    → IsRange (λ (term : ℕ × List ℕ). (term.0 == field) && test term.1) (terms_of c) first end
    → ArePut (postings_of c) c.documents first at set → end ≤ at → doc < c.documents → get_or set doc false ≡ false → has_term field test (flat_of c doc) ≡ false
none_left c field first end at test doc set law range put past low out =
    let passes : ℕ × List ℕ → Bool = λ (term : ℕ × List ℕ). (term.0 == field) && test term.1 in
    sym law
    ∙ none_posted doc passes c.terms (λ ordinal row is yes.
    let within = (range ordinal row.term (term_there c.terms ordinal row is)).1 yes in
    sym (ap (has_document doc) (postings_there c.terms ordinal row is)) ∙ put.put ordinal doc within.0 (omega (arith, within.1, past)) low out)

pub ruleset listed = (put_none, put_more)

-- ---- the numbers of a document without a term

pub numbers_fail : (field : ℕ) (test : List ℕ → Bool) (d : FlatDocument) → has_term field test d ≡ false → AllByRecursion (λ (number : ℤ). test (number_key number) ≡ false) (values_of field d.numbers)
unfolding has_term
numbers_fail field test d none =
    pairs d.numbers (or_parts (list_any (is_number_of field test) d.numbers) _ (or_parts (list_any (is_keyword_of field test) d.keywords) _ none).1).0
  where
    each : (numbers : List ℤ) → list_any (λ number. test (number_key number)) numbers ≡ false → AllByRecursion (λ (number : ℤ). test (number_key number) ≡ false) numbers
    each [] out = tt
    each (z ∷ numbers) out = let parts = or_parts (test (number_key z)) (list_any (λ number. test (number_key number)) numbers) out in (parts.0, each numbers parts.1)

    pairs : (numbers : List (ℕ × List ℤ)) → list_any (is_number_of field test) numbers ≡ false → AllByRecursion (λ (number : ℤ). test (number_key number) ≡ false) (values_of field numbers)
    pairs [] out = tt
    pairs (pair ∷ numbers) out =
        let parts = or_parts (is_number_of field test pair) (list_any (is_number_of field test) numbers) out in
        by_test (pair.0 == field)
        (λ same. rw same (each pair.1 (rw same at parts.0)))
        (λ other. rw other (pairs numbers parts.1))

pub numbers_fit : (field : ℕ) (numbers : List (ℕ × List ℤ)) → AllByRecursion (λ (pair : ℕ × List ℤ). All (FitsSigned w64) pair.1) numbers → AllByRecursion (FitsSigned w64) (values_of field numbers)
numbers_fit field [] all = tt
numbers_fit field (pair ∷ numbers) all =
    by_test (pair.0 == field)
    (λ same. rw same (recursion_from_All (FitsSigned w64) pair.1 all.0))
    (λ other. rw other (numbers_fit field numbers all.1))

-- ---- edges and the order of numbers

pub flip : (a b : ℤ) → is_le (int_cmp a b) ≡ not (is_lt (int_cmp b a))
flip a b = by (int_cmp a b) (int_cmp b a) (int_ranked a b (int_cmp a b) refl) (int_ranked b a (int_cmp b a) refl)
  where
    by : (c e : Ordering) → MatchOrdering c (a <ℤ b) (a ≡ b) (b <ℤ a) → MatchOrdering e (b <ℤ a) (b ≡ a) (a <ℤ b) → is_le c ≡ not (is_lt e)
    by Less Less m n = absurd (omega (arith, ints, m, n))
    by Less Equal m n = refl
    by Less Greater m n = refl
    by Equal Less m n = absurd (omega (arith, ints, m, n))
    by Equal Equal m n = refl
    by Equal Greater m n = refl
    by Greater Less m n = refl
    by Greater Equal m n = absurd (omega (arith, ints, m, n))
    by Greater Greater m n = absurd (omega (arith, ints, m, n))
