-- Sets of documents that are taken one by one, or by lists that are marked and met.
use Rattle.std.proofs.Common.{◌≡◌, ◌≢◌, ℕ, ◌+◌, ◌<◌, ◌≤◌, Bool, true, false, ◌&&◌, ◌||◌, cond, List, [], ◌∷◌, length, map, get_or, set, take, replicate, refl, sym, ap, subst, ◌∙◌, inl, inr, arith, nat_eq}
use Rattle.std.proofs.lemmas.Bool.{cases_eq, eq-eqb, ne_eqb}
use Rattle.std.proofs.lemmas.List.{ext_get_or, get_or-map, get_or-replicate, get_or-set_other, get_or-set_same, length-map, length-replicate, length-set, take_all}
use Rattle.std.proofs.lemmas.List.Folds.{list_all_more, list_any_more}
use Rattle.std.proofs.lemmas.List.FromFn.{get_or-map-range_with_len, length-map-range_with_len}
use Rattle.block_bits.specs.Flags.{intersection}
use Rattle.postings.specs.Marks.{has_document}
use Rattle.segment.specs.Flat.{FlatDocument, flat_of, flats_of}
use Rattle.segment.specs.Live.{LiveState, IsLiveOver}
use Rattle.segment_parts.specs.declared.columns.Columns.{Columns}
use Rattle.leaf_search.specs.Sets.{Made, MadeByLists, Marks, cut}
use Rattle.leaf_search.specs.Words.{all_posted, lists_at}
use Rattle.leaf_search.proofs.Cutting.{all_flats, cut_none}
use Rattle.leaf_search.proofs.Finding.{made_of}
use Rattle.leaf_search.proofs.Gaining.{has_all}
use Rattle.leaf_search.proofs.Phrasing.{cut_at, length_cut, none_left}
use Rattle.leaf_search.proofs.Tests.{and_false, and_true, or_false}
use Rattle.leaf_search.proofs.Unions.{length_meet, meet_at}

-- ---- documents of postings, one by one

-- of the postings before an index, the documents that pass
pub record AreTaken (keep : ℕ → Bool) (postings : List (ℕ × List ℕ)) (at documents : ℕ) (taken : List Bool) : Type 0 where
  pub long : length taken ≡ documents
  pub marked : (doc : ℕ) → doc < documents → get_or taken doc false ≡ (has_document doc (take at postings) && keep doc)

pub taken_none : (keep : ℕ → Bool) (postings : List (ℕ × List ℕ)) (documents : ℕ) (empty : List Bool) → empty ≡ replicate documents false → AreTaken keep postings 0 documents empty
taken_none keep postings documents empty none = record {
  long = ap length none ∙ length-replicate documents false;
  marked = λ doc below. ap (λ (l : List Bool). get_or l doc false) none ∙ get_or-replicate documents doc false false below;
}

abbrev put_document : Bool → List Bool → ℕ → List Bool
put_document takes taken doc = cond takes (set taken doc true) taken

put_long : (takes : Bool) (taken : List Bool) (doc : ℕ) → length (put_document takes taken doc) ≡ length taken
put_long true taken doc = length-set taken doc true
put_long false taken doc = refl

put_other : (takes : Bool) (taken : List Bool) (doc k : ℕ) → k ≢ doc → get_or (put_document takes taken doc) k false ≡ get_or taken k false
put_other true taken doc k other = get_or-set_other taken doc k true false other
put_other false taken doc k other = refl

put_own : (takes had : Bool) (taken : List Bool) (doc : ℕ) → doc < length taken → get_or taken doc false ≡ (had && takes) → get_or (put_document takes taken doc) doc false ≡ takes
put_own true had taken doc inside is = get_or-set_same taken doc true false inside
put_own false had taken doc inside is = is ∙ and_false had

or_true : (a : Bool) → (a || true) ≡ true
or_true true = refl
or_true false = refl

pub taken_more : (keep : ℕ → Bool) (postings : List (ℕ × List ℕ)) (at documents : ℕ) (taken new : List Bool) (doc : ℕ) (takes : Bool) → AreTaken keep postings at documents taken → at < length postings → (get_or postings at (0, [])).0 ≡ doc → doc < documents → takes ≡ keep doc
    → new ≡ cond takes (set taken doc true) taken → AreTaken keep postings (at + 1) documents new
taken_more keep postings at documents taken new doc takes was inside own below says made = record {
  long = ap length made ∙ put_long takes taken doc ∙ was.long;
  marked = λ k within.
      let row : ℕ → ℕ × List ℕ → Bool = λ n (posting : ℕ × List ℕ). nat_eq posting.0 n in
      let had : Bool = has_document k (take at postings) in
      let more : has_document k (take (at + 1) postings) ≡ (had || nat_eq doc k) =
      list_any_more (row k) postings at (0, []) inside ∙ ap (λ (n : ℕ). had || nat_eq n k) own in
      ap (λ (l : List Bool). get_or l k false) made ∙ elim (cases_eq k doc) [
        | inl here ↦
            let kept : takes ≡ keep k = says ∙ ap keep (sym here) in
            let yes : has_document k (take (at + 1) postings) ≡ true = more ∙ ap (λ (b : Bool). had || b) (eq-eqb doc k (sym here)) ∙ or_true had in
            ap (λ (n : ℕ). get_or (put_document takes taken doc) n false) here
            ∙ put_own takes (has_document doc (take at postings)) taken doc (omega (arith, below, was.long)) (was.marked doc below ∙ ap (λ (b : Bool). has_document doc (take at postings) && b) (sym says))
            ∙ kept
            ∙ sym (ap (λ (b : Bool). b && keep k) yes)
        | inr other ↦
            let no : has_document k (take (at + 1) postings) ≡ had = more ∙ ap (λ (b : Bool). had || b) (ne_eqb doc k (λ same. other (sym same))) ∙ or_false had in
            put_other takes taken doc k other ∙ was.marked k within ∙ sym (ap (λ (b : Bool). b && keep k) no)
      ];
}

kept_means : (a b : Bool) → (b ≡ true → a ≡ true) → (a && b) ≡ b
kept_means true b means = refl
kept_means false true means = means refl
kept_means false false means = refl

pub taken_all : (keep : ℕ → Bool) (postings : List (ℕ × List ℕ)) (at documents : ℕ) (taken : List Bool) → AreTaken keep postings at documents taken → length postings ≤ at → ((doc : ℕ) → keep doc ≡ true → has_document doc postings ≡ true) → Marks documents keep taken
taken_all keep postings at documents taken was past means = record {
  long = was.long;
  marked = λ doc below.
      was.marked doc below
      ∙ ap (λ (ps : List (ℕ × List ℕ)). has_document doc ps && keep doc) (take_all at postings past)
      ∙ kept_means (has_document doc postings) (keep doc) (means doc);
}

-- ---- the live documents of a scope

pub made_selected : (c : Columns) (live : LiveState) (n : ℕ) (keep : ℕ → Bool) (lives own marks : List Bool) → IsLiveOver c live → lives ≡ live.docs → ((doc : ℕ) → doc < c.documents → get_or own doc false ≡ nat_eq (flat_of c doc).scope n)
    → Marks (length lives) (λ doc. get_or lives doc false && (get_or own doc false && keep doc)) marks → MadeByLists c live n keep marks
made_selected c live n keep lives own marks over same law has = λ test says.
    let flats : List FlatDocument = flats_of c in
    let many : length flats ≡ c.documents = length-map-range_with_len (flat_of c) 0 c.documents in
    let tests : length (map test flats) ≡ c.documents = length-map flats test ∙ many in
    let lived : length lives ≡ c.documents = ap length same ∙ over.documents in
    let cuts : length (cut n (map test flats) live.docs flats) ≡ c.documents = length_cut n (map test flats) live.docs flats (over.documents ∙ sym tests) (many ∙ sym tests) ∙ tests in
    record {
      long = has.long ∙ lived;
      is = ext_get_or false marks (cut n (map test flats) live.docs flats) (has.long ∙ lived ∙ sym cuts)
          (λ k below.
          let inside : k < c.documents = omega (arith, below, has.long, lived) in
          let d : FlatDocument = flat_of c k in
          let flat : get_or flats k d ≡ d = get_or-map-range_with_len (flat_of c) 0 c.documents k k d inside (omega arith) in
          let marked : get_or (map test flats) k false ≡ keep k = get_or-map test flats k d false (omega (arith, inside, many)) ∙ ap test flat ∙ says k in
          has.marked k (omega (arith, inside, lived))
          ∙ ap (λ (l : List Bool). get_or l k false && (get_or own k false && keep k)) same
          ∙ ap (λ (b : Bool). get_or live.docs k false && (b && keep k)) (law k inside)
          ∙ ap (λ (x : FlatDocument). get_or live.docs k false && (nat_eq x.scope n && keep k)) (sym flat)
          ∙ ap (λ (b : Bool). get_or live.docs k false && (nat_eq (get_or flats k d).scope n && b)) (sym marked)
          ∙ sym (cut_at n (map test flats) live.docs flats k d (over.documents ∙ sym tests) (many ∙ sym tests) (omega (arith, inside, tests))));
    }

-- no document stands at a scope that isn't there
pub made_nowhere : (c : Columns) (live : LiveState) (n : ℕ) (keep : ℕ → Bool) (documents : ℕ) (empty : List Bool) → IsLiveOver c live → length c.scopes ≤ n → ((doc : ℕ) → doc < c.documents → (flat_of c doc).scope < length c.scopes) → documents ≡ c.documents → empty ≡ replicate documents false
    → MadeByLists c live n keep empty
made_nowhere c live n keep documents empty over past law many none = λ test says.
    let flats : List FlatDocument = flats_of c in
    let tests : length (map test flats) ≡ c.documents = length-map flats test ∙ length-map-range_with_len (flat_of c) 0 c.documents in
    let all : empty ≡ replicate c.documents false = none ∙ ap (λ (k : ℕ). replicate k false) many in
    record {
      long = ap length all ∙ length-replicate c.documents false;
      is =
          all
          ∙ ap (λ (k : ℕ). replicate k false) (sym tests)
          ∙ sym (cut_none n (map test flats) live.docs flats (all_flats c (λ (d : FlatDocument). d.scope < n) (λ doc below. omega (arith, past, law doc below))) (over.documents ∙ sym tests) (sym (length-map flats test)));
    }

-- a set without documents, where none passes
pub made_none : (c : Columns) (live : LiveState) (n : ℕ) (test : FlatDocument → Bool) (documents : ℕ) (empty : List Bool) → IsLiveOver c live → documents ≡ c.documents → empty ≡ replicate documents false → ((doc : ℕ) → test (flat_of c doc) ≡ false) → Made c live n test empty
made_none c live n test documents empty over many none never =
    let all : empty ≡ replicate c.documents false = none ∙ ap (λ (k : ℕ). replicate k false) many in
    record {
      long = ap length all ∙ length-replicate c.documents false;
      is = all ∙ none_left c n live.docs test over.documents (λ doc below. never doc);
    }

pub made_never : (c : Columns) (live : LiveState) (n : ℕ) (keep : ℕ → Bool) (documents : ℕ) (empty : List Bool) → IsLiveOver c live → documents ≡ c.documents → empty ≡ replicate documents false → ((doc : ℕ) → keep doc ≡ false) → MadeByLists c live n keep empty
made_never c live n keep documents empty over many none never = λ test says. made_none c live n test documents empty over many none (λ doc. says doc ∙ never doc)

pub made_same : (c : Columns) (live : LiveState) (n : ℕ) (keep same : ℕ → Bool) (marks : List Bool) → ((doc : ℕ) → keep doc ≡ same doc) → MadeByLists c live n keep marks → MadeByLists c live n same marks
made_same c live n keep same marks alike made = λ test says. made test (λ doc. says doc ∙ sym (alike doc))

pub made_marked : (c : Columns) (live : LiveState) (n : ℕ) (keep : ℕ → Bool) (marks cuts : List Bool) → IsLiveOver c live → Marks c.documents keep marks → cuts ≡ cut n marks live.docs (flats_of c) → MadeByLists c live n keep cuts
made_marked c live n keep marks cuts over has is = λ test says.
    made_of c live n test marks cuts over.documents (has_all c test marks (record { long = has.long; marked = λ doc below. has.marked doc below ∙ sym (says doc) })) is

-- ---- lists that are marked and met

abbrev has_at : List (ℕ × List ℕ) → ℕ → Bool
has_at list doc = has_document doc list

module _ (documents : ℕ) where
  -- a list is marked in an empty set
  pub marks_own : (list : List (ℕ × List ℕ)) (empty own : List Bool) → empty ≡ replicate documents false → length own ≡ length empty → ((doc : ℕ) → doc < length empty → get_or own doc false ≡ (get_or empty doc false || has_document doc list))
      → Marks documents (has_at list) own
  marks_own list empty own none long marked =
      let started : length empty ≡ documents = ap length none ∙ length-replicate documents false in
      record {
        long = long ∙ started;
        marked = λ doc below.
            marked doc (omega (arith, below, started))
            ∙ ap (λ (l : List Bool). get_or l doc false || has_document doc list) none
            ∙ ap (λ (b : Bool). b || has_document doc list) (get_or-replicate documents doc false false below);
      }

  -- by the ordinal of its term
  pub marks_list : (lists table : List (List (ℕ × List ℕ))) (ordinals : List ℕ) (at count : ℕ) (empty own : List Bool) → table ≡ lists → at < length ordinals → count ≡ documents → empty ≡ replicate count false → length own ≡ length empty
      → ((doc : ℕ) → doc < length empty → get_or own doc false ≡ (get_or empty doc false || has_document doc (get_or table (get_or ordinals at 0) []))) → Marks documents (has_at (get_or (lists_at lists ordinals) at [])) own
  marks_list lists table ordinals at count empty own same inside many none long marked =
      let listed : get_or table (get_or ordinals at 0) [] ≡ get_or (lists_at lists ordinals) at [] =
      ap (λ (l : List (List (ℕ × List ℕ))). get_or l (get_or ordinals at 0) []) same ∙ sym (get_or-map (λ ordinal. get_or lists ordinal []) ordinals at 0 [] inside) in
      marks_own (get_or (lists_at lists ordinals) at []) empty own (none ∙ ap (λ (k : ℕ). replicate k false) many) long
      (λ doc below. marked doc below ∙ ap (λ (l : List (ℕ × List ℕ)). get_or empty doc false || has_document doc l) listed)

  pub marks_first : (listed : List (List (ℕ × List ℕ))) (own : List Bool) → 0 < length listed → Marks documents (has_at (get_or listed 0 [])) own → Marks documents (all_posted (take 1 listed)) own
  marks_first [] own some one = absurd (omega (arith, some))
  marks_first (list ∷ listed) own some one = record { long = one.long; marked = λ doc below. one.marked doc below ∙ sym (and_true (has_document doc list)) }

  pub marks_more : (listed : List (List (ℕ × List ℕ))) (at : ℕ) (now own new : List Bool) → at < length listed → Marks documents (all_posted (take at listed)) now → Marks documents (has_at (get_or listed at [])) own → new ≡ intersection now own
      → Marks documents (all_posted (take (at + 1) listed)) new
  marks_more listed at now own new inside was one met =
      let same : length now ≡ length own = was.long ∙ sym one.long in
      record {
        long = ap length met ∙ length_meet now own same ∙ was.long;
        marked = λ doc below.
            ap (λ (l : List Bool). get_or l doc false) met
            ∙ meet_at now own doc (omega (arith, below, was.long)) same
            ∙ ap (λ (b : Bool). b && get_or own doc false) (was.marked doc below)
            ∙ ap (λ (b : Bool). all_posted (take at listed) doc && b) (one.marked doc below)
            ∙ sym (list_all_more (has_document doc) listed at [] inside);
      }

  pub marks_all : (listed : List (List (ℕ × List ℕ))) (at : ℕ) (now : List Bool) → length listed ≤ at → Marks documents (all_posted (take at listed)) now → Marks documents (all_posted listed) now
  marks_all listed at now past was = subst (λ (l : List (List (ℕ × List ℕ))). Marks documents (all_posted l) now) (take_all at listed past) was
