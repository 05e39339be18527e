-- The documents of the roots that have one of some ids.
use Rattle.std.proofs.Common.{◌≡◌, ℕ, zero, suc, ◌+◌, ◌<◌, ◌≤◌, ◌↔◌, Bool, true, false, ◌||◌, List, [], ◌∷◌, length, map, get_or, set, take, replicate, Some, slice_get, Contains, All, refl, sym, ap, subst, ◌∙◌, inl, inr, arith, nat_eq}
use Rattle.std.specs.List.{list_any}
use Rattle.std.specs.Str.{bytes_eq}
use Rattle.std.proofs.lemmas.Bool.{cases_Bool, cases_lt, false_from_ne_true, false≢true, eq-eqb, eqb-true}
use Rattle.std.proofs.lemmas.List.{get_or_default, get_or-map, get_or-replicate, get_or-set_other, get_or-set_same, get_or_past, length-map, length-replicate, length-set, take_all}
use Rattle.std.proofs.lemmas.List.Folds.{list_any_at, list_any_more}
use Rattle.std.proofs.lemmas.List.FromFn.{length-map-range_with_len}
use Rattle.std.proofs.lemmas.Option.{same_Some, get_or_from_slice_get, slice_get-get_or, slice_get_within}
use Rattle.std.proofs.lemmas.Slice.Eq.{bytes_eq-Decides}
use Rattle.segment.specs.Agree.{AreColumns}
use Rattle.segment.specs.Flat.{FlatDocument, FlatRoot, flat_of, flat_root, flats_of, roots_of}
use Rattle.segment.specs.Marks.{length-marked_places}
use Rattle.segment.specs.Roots.{root_documents}
use Rattle.segment.specs.Text.{marked_places}
use Rattle.segment_parts.specs.declared.columns.Columns.{Columns}
use Rattle.stored_sources.specs.Roots.{no_root, root_of}
use Rattle.leaf_search.specs.Ids.{GainsDocuments, is_of_root}
use Rattle.leaf_search.specs.Sets.{root_marks}
use Rattle.leaf_search.proofs.Cutting.{is_of, scope_set}
use Rattle.leaf_search.proofs.Rooted.{places_low}
use Rattle.leaf_search.proofs.Tests.{same_test, or_false, or_assoc}

-- ---- numbers of a list

any_there : (p : ℕ → Bool) (xs : List ℕ) → list_any p xs ≡ true → (x : ℕ) × Contains xs x × (p x ≡ true)
any_there p [] e = absurd (cc (e))
any_there p (x ∷ xs) e = elim (cases_Bool (p x)) [
  | inl holds ↦ (x, (0, omega arith, refl), holds)
  | inr fails ↦ let rest = any_there p xs (rw fails at e) in (rest.0, (suc rest.1.0, omega (arith, rest.1.1), rest.1.2), rest.2)
]

any_here : (p : ℕ → Bool) (xs : List ℕ) (x : ℕ) → Contains xs x → p x ≡ true → list_any p xs ≡ true
any_here p xs x there holds = list_any_at p xs there.0 x there.1 (ap p there.2 ∙ holds)

-- ---- the documents of roots, one after the other

pub gains_none : (scopes : List (List Bool)) (old : List Bool) → GainsDocuments scopes [] old old
gains_none scopes old = record { long = refl; marked = λ doc inside. sym (or_false (get_or old doc false)) }

set_marks : (marks : List Bool) (at doc : ℕ) → at < length marks → get_or (set marks at true) doc false ≡ (get_or marks doc false || nat_eq at doc)
set_marks marks at doc inside = elim (cases_Bool (nat_eq at doc)) [
  | inl same ↦
      let is : at ≡ doc = eqb-true at doc same in
      rw same (ap (λ (k : ℕ). get_or (set marks at true) k false) (sym is) ∙ get_or-set_same marks at true false inside ∙ sym (or_true (get_or marks doc false)))
  | inr other ↦
      rw other (get_or-set_other marks at doc true false (λ is. false≢true (sym other ∙ eq-eqb at doc (sym is))) ∙ sym (or_false (get_or marks doc false)))
]
  where
    or_true : (a : Bool) → (a || true) ≡ true
    or_true true = refl
    or_true false = refl

pub gains_more : (scopes : List (List Bool)) (roots : List ℕ) (n doc : ℕ) (old now new : List Bool) → GainsDocuments scopes (take n roots) old now → n < length roots
    → slice_get (root_documents scopes) (get_or roots n 0) ≡ Some doc → doc < length now → new ≡ set now doc true → GainsDocuments scopes (take (n + 1) roots) old new
gains_more scopes roots n doc old now new was inside place below made = record {
  long = ap length made ∙ length-set now doc true ∙ was.long;
  marked = λ other within.
      let p : ℕ → Bool = is_of_root scopes other in
      let own : nat_eq doc other ≡ p (get_or roots n 0) = ap (λ (k : ℕ). nat_eq k other) (sym (get_or_from_slice_get (root_documents scopes) (get_or roots n 0) doc 0 place)) in
      ap (λ (marks : List Bool). get_or marks other false) made
      ∙ set_marks now doc other below
      ∙ ap (λ (b : Bool). b || nat_eq doc other) (was.marked other within)
      ∙ ap (λ (b : Bool). (get_or old other false || list_any p (take n roots)) || b) own
      ∙ or_assoc (get_or old other false) (list_any p (take n roots)) (p (get_or roots n 0))
      ∙ ap (λ (b : Bool). get_or old other false || b) (sym (list_any_more p roots n 0 inside));
}

pub gains_all : (scopes : List (List Bool)) (roots : List ℕ) (n : ℕ) (old now : List Bool) → length roots ≤ n → GainsDocuments scopes (take n roots) old now → GainsDocuments scopes roots old now
gains_all scopes roots n old now past was = subst (λ (own : List ℕ). GainsDocuments scopes own old now) (take_all n roots past) was

-- ---- marks by the flags of roots

abbrev spread : (FlatRoot → Bool) → List FlatRoot → List Bool → List Bool
spread test roots [] = []
spread test [] (flag ∷ flags) = false ∷ spread test [] flags
spread test (root ∷ roots) (true ∷ flags) = test root ∷ spread test roots flags
spread test (root ∷ roots) (false ∷ flags) = false ∷ spread test (root ∷ roots) flags

marks_spread : (test : FlatRoot → Bool) (roots : List FlatRoot) (flats : List FlatDocument) → root_marks test roots flats ≡ spread test roots (map (is_of 0) flats)
marks_spread test roots [] = refl
marks_spread test [] (d ∷ flats) = ap (λ (l : List Bool). false ∷ l) (marks_spread test [] flats)
marks_spread test (root ∷ roots) (d ∷ flats) = elim (cases_Bool (is_of 0 d)) [
  | inl here ↦ rw here (ap (λ (l : List Bool). test root ∷ l) (marks_spread test roots flats))
  | inr other ↦ rw other (ap (λ (l : List Bool). false ∷ l) (marks_spread test (root ∷ roots) flats))
]

is_spread : (test : FlatRoot → Bool) (d : FlatRoot) (start : ℕ) (marks flags : List Bool) (roots : List FlatRoot) → length marks ≡ length flags → length (marked_places start flags) ≡ length roots
    → ((r k : ℕ) → slice_get (marked_places start flags) r ≡ Some (start + k) → get_or marks k false ≡ test (get_or roots r d)) → ((k : ℕ) → get_or flags k false ≡ false → get_or marks k false ≡ false)
    → marks ≡ spread test roots flags
is_spread test d start [] [] roots long many rooted others = refl
is_spread test d start [] (flag ∷ flags) roots long many rooted others = absurd (omega (arith, long))
is_spread test d start (mark ∷ marks) [] roots long many rooted others = absurd (omega (arith, long))
is_spread test d start (mark ∷ marks) (true ∷ flags) [] long many rooted others = absurd (omega (arith, many))
is_spread test d start (mark ∷ marks) (true ∷ flags) (root ∷ roots) long many rooted others =
    ap (λ (m : Bool). m ∷ marks) (rooted 0 0 (ap Some (omega arith)))
    ∙ ap (λ (l : List Bool). test root ∷ l) (is_spread test d (start + 1) marks flags roots (omega (arith, long)) (omega (arith, many)) (λ r k is. rooted (suc r) (suc k) (is ∙ ap Some (omega arith))) (λ k fails. others (suc k) fails))
is_spread test d start (mark ∷ marks) (false ∷ flags) [] long many rooted others =
    ap (λ (m : Bool). m ∷ marks) (others 0 refl)
    ∙ ap (λ (l : List Bool). false ∷ l) (is_spread test d (start + 1) marks flags [] (omega (arith, long)) many (λ r k is. rooted r (suc k) (is ∙ ap Some (omega arith))) (λ k fails. others (suc k) fails))
is_spread test d start (mark ∷ marks) (false ∷ flags) (root ∷ roots) long many rooted others =
    ap (λ (m : Bool). m ∷ marks) (others 0 refl)
    ∙ ap (λ (l : List Bool). false ∷ l) (is_spread test d (start + 1) marks flags (root ∷ roots) (omega (arith, long)) many (λ r k is. rooted r (suc k) (is ∙ ap Some (omega arith))) (λ k fails. others (suc k) fails))

placed : (start : ℕ) (flags : List Bool) (r k : ℕ) → slice_get (marked_places start flags) r ≡ Some (start + k) → get_or flags k false ≡ true
placed start [] r k is = absurd (let fails : ⊥ = cc in fails)
placed start (true ∷ flags) r zero is = refl
placed start (true ∷ flags) zero (suc k) is = let same : start ≡ start + suc k = same_Some start (start + suc k) is in absurd (omega (arith, same))
placed start (true ∷ flags) (suc r) (suc k) is = placed (start + 1) flags r k (is ∙ ap Some (omega arith))
placed start (false ∷ flags) r zero is = let low : start + 1 ≤ start + 0 = places_low (start + 1) flags r (start + 0) is in absurd (omega (arith, low))
placed start (false ∷ flags) r (suc k) is = placed (start + 1) flags r k (is ∙ ap Some (omega arith))

one_place : (start : ℕ) (flags : List Bool) (q r doc : ℕ) → slice_get (marked_places start flags) q ≡ Some doc → slice_get (marked_places start flags) r ≡ Some doc → q ≡ r
one_place start [] q r doc one other = absurd (let fails : ⊥ = cc in fails)
one_place start (true ∷ flags) zero zero doc one other = refl
one_place start (true ∷ flags) zero (suc r) doc one other =
    let same : start ≡ doc = same_Some start doc one in
    absurd (omega (arith, same, places_low (start + 1) flags r doc other))
one_place start (true ∷ flags) (suc q) zero doc one other =
    let same : start ≡ doc = same_Some start doc other in
    absurd (omega (arith, same, places_low (start + 1) flags q doc one))
one_place start (true ∷ flags) (suc q) (suc r) doc one other = ap suc (one_place (start + 1) flags q r doc one other)
one_place start (false ∷ flags) q r doc one other = one_place (start + 1) flags q r doc one other

-- ---- the roots of one id after the other

module _ (c : Columns) where
  abbrev flags : List Bool
  flags = map (is_of 0) (flats_of c)

  abbrev places : List ℕ
  places = marked_places 0 flags

  -- as many roots as documents of scope 0, and these are theirs
  pub record AreRootPlaces : Type 0 where
    pub are : root_documents c.scopes ≡ places
    pub many : length places ≡ length c.roots

  pub root_places : AreColumns c → ((scope doc : ℕ) → scope < length c.scopes → doc < c.documents → get_or (get_or c.scopes scope []) doc false ≡ nat_eq (flat_of c doc).scope scope) → AreRootPlaces
  unfolding root_documents
  root_places agree law =
      let some : 0 < length c.scopes = omega (arith, agree.parts.head.some) in
      let own : List Bool = get_or c.scopes 0 [] in
      let same : own ≡ flags = scope_set c 0 own (agree.parts.head.long 0 [] some) (λ doc below. law 0 doc some below) in
      record {
        are = ap (marked_places 0) same;
        many = ap (λ (l : List Bool). length (marked_places 0 l)) (sym same) ∙ length-marked_places 0 own ∙ sym agree.parts.rooted;
      }

  -- the documents of the roots that have one of these ids
  pub record AreNamed (ids : List (List ℕ)) (marks : List Bool) : Type 0 where
    pub long : length marks ≡ c.documents
    pub rooted : (root doc : ℕ) → slice_get places root ≡ Some doc → get_or marks doc false ≡ list_any (bytes_eq (root_of c.roots root).id) ids
    pub others : (doc : ℕ) → get_or flags doc false ≡ false → get_or marks doc false ≡ false

  abbrev HaveId : List ℕ → List ℕ → Type 0
  HaveId found id = (root : ℕ) → Contains found root ↔ ((root < length c.roots) × ((root_of c.roots root).id ≡ id))

  never : (n doc : ℕ) → get_or (replicate n false) doc false ≡ false
  never n doc = elim (cases_lt doc n) [
    | inl inside ↦ get_or-replicate n doc false false inside
    | inr past ↦ get_or_past (replicate n false) doc false (omega (arith, past, length-replicate n false))
  ]

  pub named_none : (documents : ℕ) (marks : List Bool) → documents ≡ c.documents → marks ≡ replicate documents false → AreNamed [] marks
  named_none documents marks same none = record {
    long = ap length none ∙ length-replicate documents false ∙ same;
    rooted = λ root doc is. ap (λ (l : List Bool). get_or l doc false) none ∙ never documents doc;
    others = λ doc fails. ap (λ (l : List Bool). get_or l doc false) none ∙ never documents doc;
  }

  pub all_there : (found : List ℕ) (id : List ℕ) → HaveId found id → All (λ (root : ℕ). root < length c.roots) found
  all_there found id have = λ k d below. ((have (get_or found k d)).0 (k, below, get_or_default found k (get_or found k d) d below)).0

  -- the document of a root that was found
  found_place : AreRootPlaces → (root doc : ℕ) → root < length c.roots → is_of_root c.scopes doc root ≡ true → slice_get places root ≡ Some doc
  found_place are root doc inside holds =
      slice_get-get_or places root 0 (omega (arith, inside, are.many))
      ∙ ap Some (ap (λ (l : List ℕ). get_or l root 0) (sym are.are) ∙ eqb-true (get_or (root_documents c.scopes) root 0) doc holds)

  pub named_more : AreRootPlaces → (ids : List (List ℕ)) (n : ℕ) (id : List ℕ) (found : List ℕ) (old new : List Bool) → AreNamed (take n ids) old → n < length ids → id ≡ get_or ids n id → HaveId found id
      → GainsDocuments c.scopes found old new → AreNamed (take (n + 1) ids) new
  named_more are ids n id found old new was inside read have gains = record {
    long = gains.long ∙ was.long;
    rooted = λ root doc is.
        let own : List ℕ = (root_of c.roots root).id in
        let there : root < length c.roots = omega (arith, slice_get_within places root doc is, are.many) in
        let marked : get_or flags doc false ≡ true = placed 0 flags root doc (is ∙ ap Some (omega arith)) in
        let below : doc < length old = elim (cases_lt doc (length old)) [
          | inl holds ↦ holds
          | inr past ↦ absurd (false≢true (sym (get_or_past flags doc false (omega (arith, past, was.long, length-map (flats_of c) (is_of 0), length-map-range_with_len (flat_of c) 0 c.documents))) ∙ marked))
        ] in
        let one : list_any (is_of_root c.scopes doc) found ≡ bytes_eq own id = same_test (list_any (is_of_root c.scopes doc) found) (bytes_eq own id)
        (λ holds.
        let some = any_there (is_of_root c.scopes doc) found holds in
        let has = (have some.0).0 some.1 in
        let same : root ≡ some.0 = one_place 0 flags root some.0 doc is (found_place are some.0 doc has.0 some.2) in
        (bytes_eq-Decides own id).1 (ap (λ (k : ℕ). (root_of c.roots k).id) same ∙ has.1))
        (λ holds.
        any_here (is_of_root c.scopes doc) found root ((have root).1 (there, (bytes_eq-Decides own id).0 holds))
        (eq-eqb (get_or (root_documents c.scopes) root 0) doc (ap (λ (l : List ℕ). get_or l root 0) are.are ∙ get_or_from_slice_get places root doc 0 is))) in
        gains.marked doc below
        ∙ ap (λ (b : Bool). b || list_any (is_of_root c.scopes doc) found) (was.rooted root doc is)
        ∙ ap (λ (b : Bool). list_any (bytes_eq own) (take n ids) || b) (one ∙ ap (bytes_eq own) read)
        ∙ sym (list_any_more (bytes_eq own) ids n id inside);
    others = λ doc fails. elim (cases_lt doc (length old)) [
      | inl below ↦
          let none : list_any (is_of_root c.scopes doc) found ≡ false = false_from_ne_true (list_any (is_of_root c.scopes doc) found) (λ holds.
          let some = any_there (is_of_root c.scopes doc) found holds in
          let has = (have some.0).0 some.1 in
          false≢true (sym fails ∙ placed 0 flags some.0 doc (found_place are some.0 doc has.0 some.2 ∙ ap Some (omega arith)))) in
          gains.marked doc below
          ∙ ap (λ (b : Bool). b || list_any (is_of_root c.scopes doc) found) (was.others doc fails)
          ∙ none
      | inr past ↦ get_or_past new doc false (omega (arith, past, gains.long))
    ];
  }

  pub named_all : AreRootPlaces → (ids : List (List ℕ)) (n : ℕ) (marks : List Bool) → length ids ≤ n → AreNamed (take n ids) marks → marks ≡ root_marks (λ (root : FlatRoot). list_any (bytes_eq root.id) ids) (roots_of c) (flats_of c)
  named_all are ids n marks past was =
      let test : FlatRoot → Bool = λ (root : FlatRoot). list_any (bytes_eq root.id) ids in
      let d : FlatRoot = flat_root no_root in
      let all : length marks ≡ length flags = was.long ∙ sym (length-map (flats_of c) (is_of 0) ∙ length-map-range_with_len (flat_of c) 0 c.documents) in
      is_spread test d 0 marks flags (roots_of c) all (are.many ∙ sym (length-map c.roots flat_root))
      (λ root doc is.
      let own : slice_get places root ≡ Some doc = is ∙ ap Some (omega arith) in
      let there : root < length c.roots = omega (arith, slice_get_within places root doc own, are.many) in
      was.rooted root doc own
      ∙ ap (list_any (bytes_eq (root_of c.roots root).id)) (take_all n ids past)
      ∙ ap test (sym (get_or-map flat_root c.roots root no_root d there)))
      was.others
      ∙ sym (marks_spread test (roots_of c) (flats_of c))
