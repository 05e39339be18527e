-- Numbers for the first places of ids, and rows of places that become rows of these numbers.
use Rattle.std.proofs.Common.{◌≡◌, ℕ, zero, suc, ◌+◌, ◌<◌, ◌≤◌, List, [], ◌∷◌, ◌++◌, length, map, get_or, set, take, drop, slice_get, Option, None, Some, refl, sym, ap, subst, ◌∙◌, inl, inr, arith, length-append}
use Rattle.std.specs.Prelude.{Vec}
use Rattle.std.proofs.lemmas.Bool.{cases_lt}
use Rattle.std.proofs.lemmas.List.{get_or-map, length-map, map-set, take-append-drop}
use Rattle.std.proofs.lemmas.Option.{slice_get-get_or, slice_get_within}
use Rattle.segment.specs.Live.{EntryState}
use Rattle.join_ordinals.specs.Numbers.{AreHeads, AreNumbers}
use Rattle.join_ordinals.specs.Ordinals.{AreRows, IsNumbered, StandOnce, flat, ordinal_at}
use Rattle.join_ordinals.specs.Rows.{renumbered, rows_seen}
use Rattle.join_ordinals.proofs.Numbering.{get_end, get_left, keep_more}

-- numbers for the first so many places
pub record Numbering (ids : List (List ℕ)) (numbers : List ℕ) (count : ℕ) : Type 0 where
  pub kept : List (List ℕ)
  pub once : StandOnce kept
  pub many : length kept ≡ count
  pub few : count ≤ length numbers
  pub own : (place : ℕ) (id : List ℕ) → place < length numbers → slice_get ids place ≡ Some id → IsNumbered kept (Some id) (slice_get numbers place)
  pub met : (i : ℕ) (id : List ℕ) → slice_get kept i ≡ Some id → (place : ℕ) × (place < length numbers) × (slice_get ids place ≡ Some id)

pub numbering_start : (ids : List (List ℕ)) → Numbering ids [] 0
numbering_start ids = record {
  kept = [];
  once = λ i j id one two. absurd (let no : ⊥ = cc in no);
  many = refl;
  few = omega arith;
  own = λ place id below is. absurd (omega (arith, below));
  met = λ i id is. absurd (let no : ⊥ = cc in no);
}

-- the number of the first place of the same id
pub numbering_old : (ids : List (List ℕ)) (numbers firsts : List ℕ) (count first number : ℕ) → AreHeads ids firsts → Numbering ids numbers count → length numbers < length ids → first ≡ get_or firsts (length numbers) 0 → first < length numbers
    → slice_get numbers first ≡ Some number → Numbering ids (numbers ++ number ∷ []) count
numbering_old ids numbers firsts count first number heads was below is before there = record {
  kept = was.kept;
  once = was.once;
  many = was.many;
  few = omega (arith, was.few, length-append numbers (number ∷ []));
  own = λ place id up here. elim (cases_lt place (length numbers)) [
    | inl less ↦ subst (IsNumbered was.kept (Some id)) (sym (get_left numbers (number ∷ []) place less)) (was.own place id less here)
    | inr past ↦
        let end : place ≡ length numbers = omega (arith, past, up, length-append numbers (number ∷ [])) in
        let same : slice_get ids first ≡ Some id = ap (slice_get ids) is ∙ heads.same (length numbers) below ∙ ap (slice_get ids) (sym end) ∙ here in
        subst (IsNumbered was.kept (Some id)) (there ∙ sym (get_end numbers number place end)) (was.own first id before same)
  ];
  met = λ i id here. let it = was.met i id here in (it.0, omega (arith, it.1, length-append numbers (number ∷ [])), it.2);
}

-- a number of its own for an id that is met for the first time
pub numbering_new : (ids : List (List ℕ)) (numbers firsts : List ℕ) (count first : ℕ) → AreHeads ids firsts → Numbering ids numbers count → length numbers < length ids → first ≡ get_or firsts (length numbers) 0 → length numbers ≤ first
    → Numbering ids (numbers ++ count ∷ []) (count + 1)
numbering_new ids numbers firsts count first heads was below is past = record {
  kept = kept;
  once = once;
  many = omega (arith, was.many, length-append was.kept (id ∷ []));
  few = omega (arith, was.few, length-append numbers (count ∷ []));
  own = λ place own up there. elim (cases_lt place n) [
    | inl less ↦ subst (IsNumbered kept (Some own)) (sym (get_left numbers (count ∷ []) place less)) (on own (slice_get numbers place) (was.own place own less there))
    | inr end ↦
        let last : place ≡ n = omega (arith, end, up, length-append numbers (count ∷ [])) in
        let same : Some id ≡ Some own = sym here ∙ ap (slice_get ids) (sym last) ∙ there in
        subst (IsNumbered kept (Some own)) (sym (get_end numbers count place last)) (get_end was.kept id count (sym was.many) ∙ same)
  ];
  met = λ i own there. elim (cases_lt i (length was.kept)) [
    | inl less ↦ let it = was.met i own (sym (get_left was.kept (id ∷ []) i less) ∙ there) in (it.0, omega (arith, it.1, length-append numbers (count ∷ [])), it.2)
    | inr end ↦
        let last : i ≡ length was.kept = omega (arith, end, slice_get_within kept i own there, length-append was.kept (id ∷ [])) in
        (n, omega (arith, length-append numbers (count ∷ [])), here ∙ sym (get_end was.kept id i last) ∙ there)
  ];
}
  where
    n : ℕ
    n = length numbers

    id : List ℕ
    id = get_or ids n []

    kept : List (List ℕ)
    kept = was.kept ++ id ∷ []

    here : slice_get ids n ≡ Some id
    here = slice_get-get_or ids n [] below

    on : (own : List ℕ) (number : Option ℕ) → IsNumbered was.kept (Some own) number → IsNumbered kept (Some own) number
    on own None is = absurd is
    on own (Some k) is = keep_more was.kept kept id refl k own is

    -- the id was not met before
    never : (i : ℕ) → slice_get was.kept i ≡ Some id → ⊥
    never i there =
        let it = was.met i id there in
        let inside : it.0 < length ids = omega (arith, it.1, below) in
        let one : get_or firsts it.0 0 ≡ get_or firsts n 0 = heads.alike it.0 n inside below (it.2 ∙ sym here) in
        omega (arith, one, is, past, heads.up it.0 inside, it.1)

    at_end : (i : ℕ) (own : List ℕ) → slice_get kept i ≡ Some own → length was.kept ≤ i → (i ≡ length was.kept) × (own ≡ id)
    at_end i own there end =
        let last : i ≡ length was.kept = omega (arith, end, slice_get_within kept i own there, length-append was.kept (id ∷ [])) in
        let same : Some own ≡ Some id = sym there ∙ get_end was.kept id i last in
        (last, cc)

    inside : (i : ℕ) (own : List ℕ) → i < length was.kept → slice_get kept i ≡ Some own → slice_get was.kept i ≡ Some own
    inside i own less there = sym (get_left was.kept (id ∷ []) i less) ∙ there

    once : StandOnce kept
    once i j own one two = elim (cases_lt i (length was.kept)) [
      | inl less ↦ elim (cases_lt j (length was.kept)) [
        | inl more ↦ was.once i j own (inside i own less one) (inside j own more two)
        | inr end ↦ absurd (never i (inside i own less one ∙ ap Some (at_end j own two end).1))
      ]
      | inr end ↦ elim (cases_lt j (length was.kept)) [
        | inl more ↦ absurd (never j (inside j own more two ∙ ap Some (at_end i own one end).1))
        | inr past ↦ omega (arith, (at_end i own one end).0, (at_end j own two past).0)
      ]
    ]

pub old_number : (ids : List (List ℕ)) (numbers firsts : List ℕ) (count first number : ℕ) → AreHeads ids firsts → Numbering ids numbers count → length numbers < length ids → first ≡ get_or firsts (length numbers) 0 → first < length numbers
    → number ≡ get_or numbers first 0 → (new : List ℕ) (now : ℕ) → new ≡ numbers ++ number ∷ [] → now ≡ count → Numbering ids new now
old_number ids numbers firsts count first number heads was below is before value new now grown same =
    subst (λ (n : ℕ). Numbering ids new n) (sym same)
    (subst (λ (l : List ℕ). Numbering ids l count) (sym grown)
    (numbering_old ids numbers firsts count first number heads was below is before (slice_get-get_or numbers first 0 before ∙ ap Some (sym value))))

pub new_number : (ids : List (List ℕ)) (numbers firsts : List ℕ) (count first : ℕ) → AreHeads ids firsts → Numbering ids numbers count → length numbers < length ids → first ≡ get_or firsts (length numbers) 0 → length numbers ≤ first
    → (new : List ℕ) (now : ℕ) → new ≡ numbers ++ count ∷ [] → now ≡ count + 1 → Numbering ids new now
new_number ids numbers firsts count first heads was below is past new now grown more =
    subst (λ (n : ℕ). Numbering ids new n) (sym more)
    (subst (λ (l : List ℕ). Numbering ids l (count + 1)) (sym grown) (numbering_new ids numbers firsts count first heads was below is past))

pub numbering_all : (ids : List (List ℕ)) (numbers : List ℕ) (count : ℕ) → Numbering ids numbers count → length numbers ≡ length ids → AreNumbers ids numbers count
numbering_all ids numbers count are long = record {
  kept = are.kept;
  once = are.once;
  many = are.many;
  own = λ place id is. are.own place id (omega (arith, long, slice_get_within ids place id is)) is;
}

-- ---- rows

row_renumbered : (numbers : List ℕ) (row : List (Option ℕ)) (root : ℕ) → flat (slice_get (map (renumbered numbers) row) root) ≡ renumbered numbers (flat (slice_get row root))
row_renumbered numbers [] root = refl
row_renumbered numbers (place ∷ row) zero = refl
row_renumbered numbers (place ∷ row) (suc root) = row_renumbered numbers row root

at_renumbered : (numbers : List ℕ) (rows : List (List (Option ℕ))) (place root : ℕ) → ordinal_at (map (map (renumbered numbers)) rows) place root ≡ renumbered numbers (ordinal_at rows place root)
at_renumbered numbers [] place root = refl
at_renumbered numbers (row ∷ rows) zero root = row_renumbered numbers row root
at_renumbered numbers (row ∷ rows) (suc place) root = at_renumbered numbers rows place root

pub rows_renumbered : (ids kept : List (List ℕ)) (numbers : List ℕ) (id_of : EntryState → ℕ → Option (List ℕ)) (view : List EntryState) (rows : List (List (Option ℕ)))
    → ((place : ℕ) (id : List ℕ) → slice_get ids place ≡ Some id → IsNumbered kept (Some id) (slice_get numbers place))
    → AreRows ids id_of view rows → AreRows kept id_of view (map (map (renumbered numbers)) rows)
rows_renumbered ids kept numbers id_of view rows own are = record {
  entries = length-map rows (map (renumbered numbers)) ∙ are.entries;
  numbered = λ place root entry is.
      subst (IsNumbered kept (id_of entry root)) (sym (at_renumbered numbers rows place root))
      (numbered (id_of entry root) (ordinal_at rows place root) (are.numbered place root entry is));
}
  where
    numbered : (id : Option (List ℕ)) (place : Option ℕ) → IsNumbered ids id place → IsNumbered kept id (renumbered numbers place)
    numbered None None is = tt
    numbered None (Some place) is = absurd is
    numbered (Some id) None is = absurd is
    numbered (Some id) (Some place) is = own place id is

pub rows_made : (ids : List (List ℕ)) (numbers used : List ℕ) (count : ℕ) (id_of : EntryState → ℕ → Option (List ℕ)) (entries view : List EntryState) (rows new : List (List (Option ℕ))) (made : AreNumbers ids numbers count) → used ≡ numbers
    → AreRows ids id_of entries rows → new ≡ map (map (renumbered used)) rows → entries ≡ view → AreRows made.kept id_of view new
rows_made ids numbers used count id_of entries view rows new made same are is seen =
    subst (λ (v : List EntryState). AreRows made.kept id_of v new) seen
    (subst (AreRows made.kept id_of entries) (sym (is ∙ ap (λ (ns : List ℕ). map (map (renumbered ns)) rows) same)) (rows_renumbered ids made.kept numbers id_of entries rows made.own are))

-- ---- one place after the other

module _ {A : Type 0} (f : A → A) where
  set_step : (all : List A) (k : ℕ) (d : A) → set (map f (take k all) ++ drop k all) k (f (get_or (map f (take k all) ++ drop k all) k d)) ≡ map f (take (k + 1) all) ++ drop (k + 1) all
  set_step [] zero d = refl
  set_step [] (suc k) d = let same : suc k + 1 ≡ suc (k + 1) = omega arith in rw same refl
  set_step (x ∷ all) zero d = refl
  set_step (x ∷ all) (suc k) d =
      let same : suc k + 1 ≡ suc (k + 1) = omega arith in rw same (ap (λ (l : List A). f x ∷ l) (set_step all k d))

  pub step_at : (all now : List A) (k : ℕ) (d : A) → now ≡ map f (take k all) ++ drop k all → set now k (f (get_or now k d)) ≡ map f (take (k + 1) all) ++ drop (k + 1) all
  step_at all now k d is = ap (λ (l : List A). set l k (f (get_or l k d))) is ∙ set_step all k d

  step_long : (all now : List A) (k : ℕ) → now ≡ map f (take k all) ++ drop k all → length now ≡ length all
  step_long all now k is =
      omega (arith, ap length is, length-append (map f (take k all)) (drop k all), length-map (take k all) f, length-append (take k all) (drop k all), ap length (take-append-drop k all))

abbrev row_items : {A : Type 0} → Vec (Option ℕ) A → List (Option ℕ)
row_items row = row.items

pub rows_step : {A : Type 0} (f : List (Option ℕ) → List (Option ℕ)) (all items : List (Vec (Option ℕ) A)) (k : ℕ) (d new : Vec (Option ℕ) A) → rows_seen items ≡ map f (take k (rows_seen all)) ++ drop k (rows_seen all) → k < length all
    → new.items ≡ f (get_or items k d).items → rows_seen (set items k new) ≡ map f (take (k + 1) (rows_seen all)) ++ drop (k + 1) (rows_seen all)
rows_step f all items k d new is below made =
    let long : length items ≡ length all = sym (length-map items row_items) ∙ step_long f (rows_seen all) (rows_seen items) k is ∙ length-map all row_items in
    map-set row_items items k new
    ∙ ap (set (rows_seen items) k) (made ∙ ap f (sym (get_or-map row_items items k d [] (omega (arith, below, long)))))
    ∙ step_at f (rows_seen all) (rows_seen items) k [] is

-- one number more
pub one_longer : (numbers new : List ℕ) (number n : ℕ) → new ≡ numbers ++ number ∷ [] → length numbers ≡ n → length new ≡ n + 1
one_longer numbers new number n is long = omega (arith, ap length is, length-append numbers (number ∷ []), long)
