-- Names lead from the root of a mapping to each of its fields.
use Rattle.std.proofs.Common.{◌≡◌, ℕ, zero, suc, ◌+◌, ◌<◌, ◌≤◌, ◌&&◌, inl, inr, Bool, true, List, [], ◌∷◌, ◌++◌, length, map, filter, not, refl, sym, ap, ◌∙◌, subst, arith, Some, bytes_eq}
use Rattle.std.proofs.lemmas.Bool.{false≢true, or_cases}
use Rattle.std.proofs.lemmas.List.{length-map}
use Rattle.std.proofs.lemmas.List.Elements.{All-from_recursion}
use Rattle.std.proofs.lemmas.Slice.Eq.{bytes_eq-Decides}
use Rattle.std.specs.List.{AllByRecursion, list_all}
use Rattle.tree_json.specs.Value.{JsonValue}
use Rattle.mapping_body.specs.Body.{Property, is_body, is_nested, properties_of}
use Rattle.mapping_body.specs.Names.{in_byte_order, is_among, lies_above, names_of, place_of, put, put_all}
use Rattle.mapping_body.specs.Order.{AreDistinct, name_at}
use Rattle.mapping_body.proofs.Closed.{append_all, has_name}
use Rattle.mapping_body.proofs.HaveNames.{HasNames, body_names}
use Rattle.mapping_body.proofs.Ordered.{place_is}
use Rattle.mapping_body.proofs.Ranks.{by_ordering, compared}
use Rattle.mapping_body.proofs.Spelled.{HaveBytes}
use Rattle.mapping_growth.specs.Bodies.{AreBodies}
use Rattle.mapping_growth.specs.Fields.{Draft, draft_of, draft_paths, drafts_added, drafts_from, drafts_of}
use Rattle.mapping_growth.proofs.Generations.{filter_all}
use Rattle.mapping.specs.Mapping.{Mapping, field_at, field_by, field_named, mapping_by, mapping_of, nested_among, no_field, root_scope, scope_at, scope_by, scope_paths}
use Rattle.mapping.specs.Reached.{AreReached}
use Rattle.mapping.proofs.Above.{both}
use Rattle.mapping.proofs.Founded.{above_before, all_at, all_founded, among_filtered, at, field_is, fields_by_paths, path_at, same_place, scope_is, turn_at}
use Rattle.mapping.proofs.InTurn.{AreFounded}

-- ---- no name is empty

all_put : {T : Type 0} (P : T → Type 0) (name : T → List ℕ) (x : T) (ys : List T) → P x → AllByRecursion P ys → AllByRecursion P (put name x ys)
all_put P name x [] first all = (first, tt)
all_put P name x (y ∷ ys) first all =
    by_ordering (compared (name y) (name x))
    (λ less. rw less (all.0, all_put P name x ys first all.1))
    (λ equal. rw equal all)
    (λ greater. rw greater (first, all))

all_put_all : {T : Type 0} (P : T → Type 0) (name : T → List ℕ) (ys xs : List T) → AllByRecursion P ys → AllByRecursion P xs → AllByRecursion P (put_all name ys xs)
all_put_all P name ys [] one two = one
all_put_all P name ys (x ∷ xs) one two = all_put_all P name (put name x ys) xs (all_put P name x ys two.0 one) two.1

abbrev IsSpelled : Draft → Type 0
IsSpelled d = HaveBytes (names_of d.path)

spelled_of : (g : ℕ) (ps : List Property) → AllByRecursion HasNames ps → AllByRecursion IsSpelled (map (draft_of g) ps)
spelled_of g [] all = tt
spelled_of g (p ∷ ps) all = (all.0, spelled_of g ps all.1)

spelled_added : (g : ℕ) (known : List (List ℕ)) (v : JsonValue) → is_body v ≡ true → AllByRecursion IsSpelled (drafts_added g known v)
spelled_added g known v is =
    filter_all IsSpelled (λ d. not (is_among known d.path)) (in_byte_order (λ d. d.path) (map (draft_of g) (properties_of v)))
    (all_put_all IsSpelled (λ d. d.path) [] (map (draft_of g) (properties_of v)) tt (spelled_of g (properties_of v) (body_names v is)))

spelled_from : (g : ℕ) (known : List Draft) (bs : List JsonValue) → list_all is_body bs ≡ true → AllByRecursion IsSpelled known → AllByRecursion IsSpelled (drafts_from g known bs)
spelled_from g known [] forms all = all
spelled_from g known (b ∷ bs) forms all =
    let parts = both (is_body b) (list_all is_body bs) forms in
    spelled_from (g + 1) (known ++ drafts_added g (draft_paths known) b) bs parts.1 (append_drafts known (drafts_added g (draft_paths known) b) all (spelled_added g (draft_paths known) b parts.0))
  where
    append_drafts : (xs ys : List Draft) → AllByRecursion IsSpelled xs → AllByRecursion IsSpelled ys → AllByRecursion IsSpelled (xs ++ ys)
    append_drafts xs ys one two = append_all IsSpelled xs ys one two

spelled : (bs : List JsonValue) → list_all is_body bs ≡ true → AllByRecursion IsSpelled (drafts_of bs)
unfolding drafts_of
spelled bs forms = spelled_from 1 [] bs forms tt

-- ---- fields by their paths

record StandsAt (names : List (List ℕ)) (name : List ℕ) : Type 0 where
  number : ℕ
  within : number < length names
  is : name_at names number ≡ name

place_found : (names : List (List ℕ)) (name : List ℕ) → has_name names name ≡ true → StandsAt names name
place_found [] name h = absurd (false≢true h)
place_found (x ∷ names) name h = elim (or_cases (bytes_eq x name) (has_name names name) h) [
  | inl same ↦ record { number = 0; within = omega arith; is = (bytes_eq-Decides x name).0 same }
  | inr later ↦ let rest = place_found names name later in record { number = suc rest.number; within = omega (arith, rest.within); is = rest.is }
]

module _ (bodies : List JsonValue) (dynamic : Bool) (ds : List Draft) (g : ℕ) (is : AreFounded g ds) where
  abbrev made : Mapping
  made = mapping_by bodies dynamic ds

  inside : (f : ℕ) → f < length made.fields → f < length ds
  inside f h = rw (sym (length-map ds (field_by (scope_paths ds)))) h

  outside : (f : ℕ) → f < length ds → f < length made.fields
  outside f h = rw (length-map ds (field_by (scope_paths ds))) h

  path_is : (f : ℕ) → f < length ds → (field_at made f).path ≡ (at ds f).path
  path_is f h = ap (λ x. x.path) (field_is (scope_paths ds) ds f no_field h)

  since_is : (f : ℕ) → f < length ds → (field_at made f).since ≡ (at ds f).since
  since_is f h = ap (λ x. x.since) (field_is (scope_paths ds) ds f no_field h)

  distinct : AreDistinct (draft_paths ds)
  distinct a b h k same =
      let long = length-map ds (λ d. d.path) in
      same_place ds a b is.turn (omega (arith, long, h)) (omega (arith, long, k)) (sym (path_at ds a) ∙ same ∙ path_at ds b)

  named_at : (f : ℕ) (path : List ℕ) → f < length ds → (at ds f).path ≡ path → field_named made path ≡ Some f
  named_at f path h same =
      ap (place_of path) (fields_by_paths (scope_paths ds) ds)
      ∙ place_is path (draft_paths ds) f distinct (rw (length-map ds (λ d. d.path)) h) ((bytes_eq-Decides (name_at (draft_paths ds) f) path).1 (path_at ds f ∙ same))

  named : (f : ℕ) → f < length made.fields → field_named made (field_at made f).path ≡ Some f
  named f h = named_at f (field_at made f).path (inside f h) (sym (path_is f (inside f h)))

  above : (f : ℕ) (path : List ℕ) → f < length made.fields → lies_above [] path ≡ true → lies_above path (field_at made f).path ≡ true
      → (e : ℕ) × (e < length made.fields) × (field_named made path ≡ Some e) × ((field_at made e).since ≤ (field_at made f).since)
  above f path h some over =
      let here = inside f h in
      let over_draft : lies_above path (at ds f).path ≡ true = subst (λ (p : List ℕ). lies_above path p ≡ true) (path_is f here) over in
      let have = all_at (λ (d : Draft). (lies_above [] d.path ≡ true) × ((a : List ℕ) → lies_above [] a ≡ true → lies_above a d.path ≡ true → has_name (draft_paths ds) a ≡ true)) ds f is.above here in
      let place = place_found (draft_paths ds) path (have.1 path some over_draft) in
      let there : place.number < length ds = omega (arith, place.within, length-map ds (λ (d : Draft). d.path)) in
      let same : (at ds place.number).path ≡ path = sym (path_at ds place.number) ∙ place.is in
      let before = above_before ds place.number f is.turn there here (subst (λ (p : List ℕ). lies_above p (at ds f).path ≡ true) (sym same) over_draft) in
      let rises = (turn_at ds place.number f is.turn before here).rising in
      (place.number, outside place.number there, named_at place.number path there same, rw (since_is place.number there, since_is f here) rises)

  scopes : (n : ℕ) → 0 < n → n < length made.scopes → (f : ℕ) × (f < length made.fields) × ((field_at made f).path ≡ (scope_at made n).path) × ((field_at made f).since ≤ (scope_at made n).since)
  scopes zero h k = absurd (omega (arith, h))
  scopes (suc n) h k =
      let long = length-map (nested_among ds) (scope_by (scope_paths ds)) in
      let within : n < length (nested_among ds) = omega (arith, long, k) in
      let found = (among_filtered (λ d. is_nested d.kind) ds n within).0 in
      let scope = scope_is (scope_paths ds) (nested_among ds) n within in
      let since : (field_at made found.number).since ≡ (scope_at made (suc n)).since = since_is found.number found.within ∙ ap (λ d. d.since) found.is ∙ sym (ap (λ s. s.since) scope) in (
        found.number,
        outside found.number found.within,
        path_is found.number found.within ∙ ap (λ d. d.path) found.is ∙ sym (ap (λ s. s.path) scope),
        omega (arith, since),
      )

pub reached : (bodies : List JsonValue) (dynamic : Bool) → AreBodies bodies → AreReached (mapping_of bodies dynamic)
reached bodies dynamic are =
    let founded = all_founded bodies are.forms in
    record {
      named = named bodies dynamic (drafts_of bodies) (suc (length bodies)) founded;
      names = λ f h.
          let here = inside bodies dynamic (drafts_of bodies) (suc (length bodies)) founded f h in
          All-from_recursion (λ (name : List ℕ). 0 < length name) (names_of (field_at (mapping_of bodies dynamic) f).path)
          (subst (λ (p : List ℕ). HaveBytes (names_of p)) (sym (path_is bodies dynamic (drafts_of bodies) (suc (length bodies)) founded f here)) (all_at IsSpelled (drafts_of bodies) f (spelled bodies are.forms) here));
      above = above bodies dynamic (drafts_of bodies) (suc (length bodies)) founded;
      scopes = scopes bodies dynamic (drafts_of bodies) (suc (length bodies)) founded;
    }
