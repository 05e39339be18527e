-- Roots put into a set one after the other.
use Rattle.std.proofs.Common.{◌≡◌, ℕ, zero, suc, ◌+◌, ◌<◌, ◌≤◌, Bool, true, false, cond, List, [], ◌∷◌, length, map, get_or, set, take, replicate, Some, slice_get, refl, sym, ap, ◌∙◌, inl, inr, arith, nat_eq}
use Rattle.std.proofs.lemmas.Bool.{cases_Bool}
use Rattle.std.proofs.lemmas.List.{get_or-map, take_all, length-map, length-replicate}
use Rattle.std.proofs.lemmas.List.FromFn.{length-map-range_with_len}
use Rattle.std.proofs.lemmas.Option.{same_Some}
use Rattle.segment.specs.Flat.{FlatDocument, FlatRoot, flat_of, flat_root, flats_of, roots_of}
use Rattle.segment.specs.Agree.{AreColumns}
use Rattle.segment.specs.Roots.{root_documents}
use Rattle.segment.specs.Text.{marked_places}
use Rattle.segment_parts.specs.declared.columns.Columns.{Columns}
use Rattle.stored_sources.specs.Roots.{no_root, root_of}
use Rattle.leaf_search.specs.Sets.{root_marks}
use Rattle.leaf_search.proofs.Cutting.{is_of, scope_set}

pub places_low : (start : ℕ) (flags : List Bool) (r doc : ℕ) → slice_get (marked_places start flags) r ≡ Some doc → start ≤ doc
places_low start [] r doc is = absurd (let no : ⊥ = cc in no)
places_low start (true ∷ flags) zero doc is = let same : start ≡ doc = same_Some start doc is in omega (arith, same)
places_low start (true ∷ flags) (suc r) doc is = omega (arith, places_low (start + 1) flags r doc is)
places_low start (false ∷ flags) r doc is = omega (arith, places_low (start + 1) flags r doc is)

module _ (test : FlatRoot → Bool) where
  skipped : (roots : List FlatRoot) (d : FlatDocument) (flats : List FlatDocument) → is_of 0 d ≡ false → root_marks test roots (d ∷ flats) ≡ false ∷ root_marks test roots flats
  skipped [] d flats other = refl
  skipped (root ∷ roots) d flats other = rw other refl

  pub length_roots : (roots : List FlatRoot) (flats : List FlatDocument) → length (root_marks test roots flats) ≡ length flats
  length_roots roots [] = refl
  length_roots [] (d ∷ flats) = omega (arith, length_roots [] flats)
  length_roots (root ∷ roots) (d ∷ flats) = elim (cases_Bool (is_of 0 d)) [
    | inl here ↦ rw here (omega (arith, length_roots roots flats))
    | inr other ↦ rw other (omega (arith, length_roots (root ∷ roots) flats))
  ]

  pub no_marks : (flats : List FlatDocument) → root_marks test [] flats ≡ replicate (length flats) false
  no_marks [] = refl
  no_marks (d ∷ flats) = ap (λ (l : List Bool). false ∷ l) (no_marks flats)

  abbrev pub with : Bool → List Bool → ℕ → List Bool
  with on marks at = cond on (set marks at true) marks

  with_more : (on own : Bool) (marks : List Bool) (at : ℕ) → own ∷ with on marks at ≡ with on (own ∷ marks) (suc at)
  with_more true own marks at = refl
  with_more false own marks at = refl

  with_first : (on : Bool) (marks : List Bool) → on ∷ marks ≡ with on (false ∷ marks) zero
  with_first true marks = refl
  with_first false marks = refl

  pub root_step : (start : ℕ) (flats : List FlatDocument) (roots : List FlatRoot) (r k : ℕ) (d : FlatRoot) → slice_get (marked_places start (map (is_of 0) flats)) r ≡ Some (start + k) → r < length roots
      → root_marks test (take (suc r) roots) flats ≡ with (test (get_or roots r d)) (root_marks test (take r roots) flats) k
  root_step start [] roots r k d is inside = absurd (let no : ⊥ = cc in no)
  root_step start (f ∷ flats) [] r k d is inside = absurd (omega (arith, inside))
  root_step start (f ∷ flats) (root ∷ roots) r k d is inside = elim (cases_Bool (is_of 0 f)) [
    | inl here ↦ at_root start f flats root roots r k d here (rw here at is) inside (λ r k moved low. root_step (start + 1) flats roots r k d moved low)
    | inr other ↦ past_root start f flats root roots r k d other (rw other at is) inside (λ k moved. root_step (start + 1) flats (root ∷ roots) r k d moved inside)
  ]
    where
      at_root : (start : ℕ) (f : FlatDocument) (flats : List FlatDocument) (root : FlatRoot) (roots : List FlatRoot) (r k : ℕ) (d : FlatRoot) → is_of 0 f ≡ true
          → slice_get (start ∷ marked_places (start + 1) (map (is_of 0) flats)) r ≡ Some (start + k) → r < length (root ∷ roots)
          → ((r k : ℕ) → slice_get (marked_places (start + 1) (map (is_of 0) flats)) r ≡ Some (start + 1 + k) → r < length roots → root_marks test (take (suc r) roots) flats ≡ with (test (get_or roots r d)) (root_marks test (take r roots) flats) k)
          → root_marks test (take (suc r) (root ∷ roots)) (f ∷ flats) ≡ with (test (get_or (root ∷ roots) r d)) (root_marks test (take r (root ∷ roots)) (f ∷ flats)) k
      at_root start f flats root roots zero k d here is inside step =
          let same : start ≡ start + k = same_Some start (start + k) is in
          let first : k ≡ 0 = omega (arith, same) in
          rw (here, first) (with_first (test root) (root_marks test [] flats))
      at_root start f flats root roots (suc r) zero d here is inside step =
          let low : start + 1 ≤ start + 0 = places_low (start + 1) (map (is_of 0) flats) r (start + 0) is in
          absurd (omega (arith, low))
      at_root start f flats root roots (suc r) (suc k) d here is inside step =
          let moved : slice_get (marked_places (start + 1) (map (is_of 0) flats)) r ≡ Some (start + 1 + k) = is ∙ ap Some (omega arith) in
          rw here (ap (λ (l : List Bool). test root ∷ l) (step r k moved (omega (arith, inside)))
          ∙ with_more (test (get_or roots r d)) (test root) (root_marks test (take r roots) flats) k)

      past_root : (start : ℕ) (f : FlatDocument) (flats : List FlatDocument) (root : FlatRoot) (roots : List FlatRoot) (r k : ℕ) (d : FlatRoot) → is_of 0 f ≡ false
          → slice_get (marked_places (start + 1) (map (is_of 0) flats)) r ≡ Some (start + k) → r < length (root ∷ roots)
          → ((k : ℕ) → slice_get (marked_places (start + 1) (map (is_of 0) flats)) r ≡ Some (start + 1 + k) → root_marks test (take (suc r) (root ∷ roots)) flats ≡ with (test (get_or (root ∷ roots) r d)) (root_marks test (take r (root ∷ roots)) flats) k)
          → root_marks test (take (suc r) (root ∷ roots)) (f ∷ flats) ≡ with (test (get_or (root ∷ roots) r d)) (root_marks test (take r (root ∷ roots)) (f ∷ flats)) k
      past_root start f flats root roots r zero d other is inside step =
          let low : start + 1 ≤ start + 0 = places_low (start + 1) (map (is_of 0) flats) r (start + 0) is in
          absurd (omega (arith, low))
      past_root start f flats root roots r (suc k) d other is inside step =
          let moved : slice_get (marked_places (start + 1) (map (is_of 0) flats)) r ≡ Some (start + 1 + k) = is ∙ ap Some (omega arith) in
          skipped (take (suc r) (root ∷ roots)) f flats other
          ∙ ap (λ (l : List Bool). false ∷ l) (step k moved)
          ∙ with_more (test (get_or (root ∷ roots) r d)) false (root_marks test (take r (root ∷ roots)) flats) k
          ∙ ap (λ (l : List Bool). with (test (get_or (root ∷ roots) r d)) l (suc k)) (sym (skipped (take r (root ∷ roots)) f flats other))

-- ---- one root more

pub roots_none : (c : Columns) (test : FlatRoot → Bool) (documents : ℕ) (empty : List Bool) → documents ≡ c.documents → empty ≡ replicate documents false
    → (length empty ≡ c.documents) × (empty ≡ root_marks test (take 0 (roots_of c)) (flats_of c))
roots_none c test documents empty many none =
    let all : empty ≡ replicate c.documents false = none ∙ ap (λ (n : ℕ). replicate n false) many in (
      ap length all ∙ length-replicate c.documents false,
      all ∙ ap (λ (n : ℕ). replicate n false) (sym (length-map-range_with_len (flat_of c) 0 c.documents)) ∙ sym (no_marks test (flats_of c)),
    )

pub roots_more : (c : Columns) (test : FlatRoot → Bool) (r doc : ℕ) (now new : List Bool) (on : Bool)
    → slice_get (marked_places 0 (map (is_of 0) (flats_of c))) r ≡ Some doc → r < length c.roots → on ≡ test (flat_root (root_of c.roots r)) → new ≡ cond on (set now doc true) now
    → now ≡ root_marks test (take r (roots_of c)) (flats_of c)
    → (length new ≡ c.documents) × (new ≡ root_marks test (take (r + 1) (roots_of c)) (flats_of c))
roots_more c test r doc now new on place inside says made was =
    let roots : List FlatRoot = roots_of c in
    let many : length roots ≡ length c.roots = length-map c.roots flat_root in
    let own : get_or roots r (flat_root no_root) ≡ flat_root (root_of c.roots r) = get_or-map flat_root c.roots r no_root (flat_root no_root) inside in
    let same : suc r ≡ r + 1 = omega arith in
    let all : new ≡ root_marks test (take (r + 1) roots) (flats_of c) =
    made
    ∙ ap (λ (l : List Bool). cond on (set l doc true) l) was
    ∙ ap (λ (b : Bool). cond b (set (root_marks test (take r roots) (flats_of c)) doc true) (root_marks test (take r roots) (flats_of c))) (says ∙ ap test (sym own))
    ∙ sym (root_step test 0 (flats_of c) roots r doc (flat_root no_root) (place ∙ ap Some (omega arith)) (omega (arith, inside, many)))
    ∙ ap (λ (k : ℕ). root_marks test (take k roots) (flats_of c)) same in
    (ap length all ∙ length_roots test (take (r + 1) roots) (flats_of c) ∙ length-map-range_with_len (flat_of c) 0 c.documents, all)

pub roots_all : (c : Columns) (test : FlatRoot → Bool) (r : ℕ) (now : List Bool) → length c.roots ≤ r → now ≡ root_marks test (take r (roots_of c)) (flats_of c) → now ≡ root_marks test (roots_of c) (flats_of c)
roots_all c test r now past was =
    was ∙ ap (λ (l : List FlatRoot). root_marks test l (flats_of c)) (take_all r (roots_of c) (omega (arith, past, length-map c.roots flat_root)))

-- the document of a root, among the documents of scope 0
pub root_place : (c : Columns) (r doc : ℕ) → AreColumns c
    → ((scope doc : ℕ) → scope < length c.scopes → doc < c.documents → get_or (get_or c.scopes scope []) doc false ≡ nat_eq (flat_of c doc).scope scope)
    → slice_get (root_documents c.scopes) r ≡ Some doc → slice_get (marked_places 0 (map (is_of 0) (flats_of c))) r ≡ Some doc
unfolding root_documents
root_place c r doc agree law is =
    let some : 0 < length c.scopes = omega (arith, agree.parts.head.some) in
    let flags : List Bool = get_or c.scopes 0 [] in
    let same : flags ≡ map (is_of 0) (flats_of c) = scope_set c 0 flags (agree.parts.head.long 0 [] some) (λ doc below. law 0 doc some below) in
    ap (λ (l : List Bool). slice_get (marked_places 0 l) r) (sym same) ∙ is
