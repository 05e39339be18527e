-- Sets that are joined and met.
use Rattle.std.proofs.Common.{◌≡◌, ℕ, zero, suc, ◌<◌, ◌≤◌, Bool, true, false, cond, ◌&&◌, ◌||◌, List, [], ◌∷◌, length, replicate, get_or, count_by, All, Some, refl, sym, ap, ◌∙◌, inl, inr, arith, nat_eq}
use Rattle.std.proofs.lemmas.Bool.{cases_Bool}
use Rattle.std.proofs.lemmas.List.{get_or_read, length-replicate}
use Rattle.std.proofs.lemmas.List.Elements.{All-head, All-tail}
use Rattle.std.proofs.lemmas.List.FromFn.{length-map-range_with_len}
use Rattle.std.proofs.lemmas.List.Sums.{sum_by-cons}
use Rattle.block_bits.specs.Flags.{cleared, intersection, is_marked, union}
use Rattle.segment.specs.Agree.{AreColumns}
use Rattle.segment.specs.Fields.{column_of}
use Rattle.segment.specs.Flat.{FlatDocument, flat_of, flats_of}
use Rattle.segment.specs.Parts.{IsPresence}
use Rattle.segment_parts.specs.declared.columns.Columns.{Columns}
use Rattle.leaf_search.specs.Sets.{Gains, cut}
use Rattle.segment.specs.Shows.{has_text, column_flag}
use Rattle.leaf_search.proofs.Cutting.{cut_sets, cut_none, scope_set, cleared_all, all_flats}

-- ---- pairs of flags

union_at : (ones others : List Bool) (at : ℕ) → at < length ones → length ones ≡ length others → get_or (union ones others) at false ≡ (get_or ones at false || get_or others at false)
union_at [] others at below e = absurd (omega (arith, below))
union_at (one ∷ ones) [] at below e = absurd (omega (arith, e))
union_at (one ∷ ones) (other ∷ others) zero below e = refl
union_at (one ∷ ones) (other ∷ others) (suc at) below e = union_at ones others at (omega (arith, below)) (omega (arith, e))

length_union : (ones others : List Bool) → length ones ≡ length others → length (union ones others) ≡ length ones
length_union [] others e = refl
length_union (one ∷ ones) [] e = absurd (omega (arith, e))
length_union (one ∷ ones) (other ∷ others) e = omega (arith, length_union ones others (omega (arith, e)))

pub meet_at : (ones others : List Bool) (at : ℕ) → at < length ones → length ones ≡ length others → get_or (intersection ones others) at false ≡ (get_or ones at false && get_or others at false)
meet_at [] others at below e = absurd (omega (arith, below))
meet_at (one ∷ ones) [] at below e = absurd (omega (arith, e))
meet_at (one ∷ ones) (other ∷ others) zero below e = refl
meet_at (one ∷ ones) (other ∷ others) (suc at) below e = meet_at ones others at (omega (arith, below)) (omega (arith, e))

pub length_meet : (ones others : List Bool) → length ones ≡ length others → length (intersection ones others) ≡ length ones
length_meet [] others e = refl
length_meet (one ∷ ones) [] e = absurd (omega (arith, e))
length_meet (one ∷ ones) (other ∷ others) e = omega (arith, length_meet ones others (omega (arith, e)))

-- ---- text fields

pub column_long : (n f : ℕ) (columns : List (ℕ × List Bool)) (flags : List Bool) → All (IsPresence n) columns → column_of f columns ≡ Some flags → length flags ≡ n
column_long n f [] flags all is = absurd (let no : ⊥ = cc in no)
column_long n f (column ∷ columns) flags all is = elim (cases_Bool (nat_eq column.0 f)) [
  | inl here ↦
      let found : Some column.1 ≡ Some flags = rw here at is in
      let own : column.1 ≡ flags = cc in
      ap length (sym own) ∙ (All-head (IsPresence n) column columns all).long
  | inr other ↦ column_long n f columns flags (All-tail (IsPresence n) column columns all) (rw other at is)
]

pub texts_gain : (c : Columns) (f : ℕ) (flags old : List Bool) → AreColumns c → ((doc : ℕ) → has_text f (flat_of c doc) ≡ column_flag doc (column_of f c.present)) → column_of f c.present ≡ Some flags → length old ≡ c.documents
    → Gains c (has_text f) old (union old flags)
texts_gain c f flags old agree law is long =
    let same : length old ≡ length flags = long ∙ sym (column_long c.documents f c.present flags agree.parts.present_are.each is) in
    record {
      long = length_union old flags same;
      marked = λ doc inside. union_at old flags doc inside same ∙ ap (λ (b : Bool). get_or old doc false || b) (sym (law doc ∙ ap (column_flag doc) is));
    }

-- ---- the cut

-- the sets of the scopes, as they are read
pub read_scopes : (sets scopes : List (List Bool)) (n : ℕ) (own : List Bool) → sets ≡ scopes → own ≡ get_or sets n own → own ≡ get_or scopes n own
read_scopes sets scopes n own same is = is ∙ ap (λ (l : List (List Bool)). get_or l n own) same

pub scope_long : (c : Columns) (n : ℕ) (own : List Bool) → AreColumns c → n < length c.scopes → own ≡ get_or c.scopes n own → length own ≡ c.documents
scope_long c n own agree inside is = ap length is ∙ agree.parts.head.long n own inside

pub kept_scope : (c : Columns) (n : ℕ) (marks lives own : List Bool) → AreColumns c → n < length c.scopes → own ≡ get_or c.scopes n own
    → ((scope doc : ℕ) → scope < length c.scopes → doc < c.documents → get_or (get_or c.scopes scope []) doc false ≡ nat_eq (flat_of c doc).scope scope)
    → intersection (intersection marks lives) own ≡ cut n marks lives (flats_of c)
kept_scope c n marks lives own agree inside is law =
    let there : own ≡ get_or c.scopes n [] = get_or_read c.scopes n own inside is [] in
    ap (intersection (intersection marks lives)) (scope_set c n own (scope_long c n own agree inside is) (λ doc below. ap (λ (set : List Bool). get_or set doc false) there ∙ law n doc inside below))
    ∙ cut_sets n marks lives (flats_of c)

pub kept_none : (c : Columns) (n : ℕ) (marks lives : List Bool) → length c.scopes ≤ n → ((doc : ℕ) → doc < c.documents → (flat_of c doc).scope < length c.scopes) → length marks ≡ c.documents → length lives ≡ c.documents
    → cleared 0 (length marks) marks ≡ cut n marks lives (flats_of c)
kept_none c n marks lives past law long live =
    cleared_all marks
    ∙ sym (cut_none n marks lives (flats_of c) (all_flats c (λ (d : FlatDocument). d.scope < n) (λ doc below. omega (arith, law doc below))) (live ∙ sym long) (length-map-range_with_len (flat_of c) 0 c.documents ∙ sym long))

-- ---- all documents of a scope that are live

all_marked : (lives : List Bool) → intersection (replicate (length lives) true) lives ≡ lives
all_marked [] = refl
all_marked (live ∷ lives) = ap (λ (l : List Bool). live ∷ l) (all_marked lives)

pub live_scope : (c : Columns) (n : ℕ) (lives own : List Bool) → AreColumns c → n < length c.scopes → own ≡ get_or c.scopes n own
    → ((scope doc : ℕ) → scope < length c.scopes → doc < c.documents → get_or (get_or c.scopes scope []) doc false ≡ nat_eq (flat_of c doc).scope scope)
    → length lives ≡ c.documents → intersection lives own ≡ cut n (replicate c.documents true) lives (flats_of c)
live_scope c n lives own agree inside is law long =
    ap (λ (l : List Bool). intersection l own) (sym (all_marked lives) ∙ ap (λ (k : ℕ). intersection (replicate k true) lives) long)
    ∙ kept_scope c n (replicate c.documents true) lives own agree inside is law

pub live_none : (c : Columns) (n : ℕ) (lives : List Bool) → length c.scopes ≤ n → ((doc : ℕ) → doc < c.documents → (flat_of c doc).scope < length c.scopes) → length lives ≡ c.documents
    → replicate c.documents false ≡ cut n (replicate c.documents true) lives (flats_of c)
live_none c n lives past law long =
    let all = length-replicate c.documents true in
    ap (λ (k : ℕ). replicate k false) (sym all)
    ∙ sym (cleared_all (replicate c.documents true))
    ∙ kept_none c n (replicate c.documents true) lives past law all long

count_none : (k : ℕ) → count_by is_marked (replicate k false) ≡ 0
count_none zero = refl
count_none (suc k) = omega (arith, sum_by-cons (λ (flag : Bool). cond flag 1 0) false (replicate k false), count_none k)

pub live_count_none : (c : Columns) (n : ℕ) (lives : List Bool) → length c.scopes ≤ n → ((doc : ℕ) → doc < c.documents → (flat_of c doc).scope < length c.scopes) → length lives ≡ c.documents
    → 0 ≡ count_by is_marked (cut n (replicate c.documents true) lives (flats_of c))
live_count_none c n lives past law long = sym (count_none c.documents) ∙ ap (count_by is_marked) (live_none c n lives past law long)
