-- A field that no name of a source leads to shows nothing there.
use Rattle.std.proofs.Common.{◌≡◌, ℕ, zero, suc, ◌+◌, ◌<◌, ◌≤◌, ◌==◌, true, nat_le, List as Seq, [], ◌∷◌, ◌++◌, length, filter, refl, sym, ap, ◌∙◌, subst, arith, Option, Some, bytes_eq, inl, inr}
use Rattle.std.proofs.lemmas.Bool.{leb-true, eqb-true}
use Rattle.std.proofs.lemmas.List.Concat.{flat_map-append}
use Rattle.std.proofs.lemmas.Slice.Eq.{bytes_eq-Decides}
use Rattle.std.specs.List.{AllByRecursion, flat_map}
use Rattle.tree_json.specs.Value.{JsonValue, null, bool, whole, text, list, object, Elements, no_elements, element, Members, no_members, member, is_object}
use Rattle.mapping_body.specs.Names.{lies_above, names_between}
use Rattle.mapping_body.proofs.Walks.{split}
use Rattle.mapping.specs.IsMapping.{IsMapping}
use Rattle.mapping.specs.Reached.{AreReached}
use Rattle.mapping.specs.Mapping.{Mapping, field_at, field_below, home_of, included, knows, names_to, outer, scope_at, shows}
use Rattle.mapping.proofs.Above.{above_lt, both, included_up}
use Rattle.mapping.proofs.Numbering.{IsKid}
use Rattle.tree_objects.specs.Object.{items, items_in, items_at, way}
use Rattle.tree_objects.proofs.Faultless.{Leads, LeadsFrom, leads_down}
use Rattle.tree_objects.proofs.Inside.{each_append, each_from}
use Rattle.tree_objects.proofs.Ways.{IsUpTo, toward, way_none}
use Rattle.flattener.specs.Named.{Misses, field_and, fields_among, fields_below, fields_in}
use Rattle.flattener.specs.Walked.{along, children_at, own_items, shown_items}

pub misses_parts : (f : ℕ) (es fs : Seq ℕ) → Misses f (es ++ fs) → Misses f es × Misses f fs
misses_parts f [] fs misses = (tt, misses)
misses_parts f (e ∷ es) fs misses = let more = misses_parts f es fs misses.1 in ((misses.0, more.0), more.1)

-- ---- along names

none_below : (m : Mapping) (g e : ℕ) (names : Seq (Seq ℕ)) (f : ℕ) (d : JsonValue) → Leads m g e names f → Misses f (e ∷ fields_below m g (field_at m e).path d)
    → (LeadsFrom m g (field_at m e).path names f → items d names ≡ []) → items d names ≡ []
none_below m g e [] f d leads misses further = absurd (misses.0 leads)
none_below m g e (name ∷ names) f d leads misses further = further leads

-- what names lead to from a path has no items where the field is missed
mutual
  none : (m : Mapping) (g : ℕ) (path : Seq ℕ) (names : Seq (Seq ℕ)) (f : ℕ) (v : JsonValue) → LeadsFrom m g path names f → Misses f (fields_below m g path v) → items v names ≡ []
  none m g path [] f v leads misses = absurd leads
  none m g path (name ∷ names) f null leads misses = refl
  none m g path (name ∷ names) f (bool b) leads misses = refl
  none m g path (name ∷ names) f (whole z) leads misses = refl
  none m g path (name ∷ names) f (text s) leads misses = refl
  none m g path (name ∷ names) f (list ds) leads misses = none_in m g path (name ∷ names) f ds leads misses
  none m g path (name ∷ names) f (object ms) leads misses = none_at m g path name names f ms leads misses

  none_in : (m : Mapping) (g : ℕ) (path : Seq ℕ) (names : Seq (Seq ℕ)) (f : ℕ) (ds : Elements) → LeadsFrom m g path names f → Misses f (fields_in m g path ds) → items_in ds names ≡ []
  none_in m g path names f no_elements leads misses = refl
  none_in m g path names f (element d ds) leads misses =
      let parts = misses_parts f (fields_below m g path d) (fields_in m g path ds) misses in
      rw (none m g path names f d leads parts.0, none_in m g path names f ds leads parts.1) refl

  none_at : (m : Mapping) (g : ℕ) (path name : Seq ℕ) (names : Seq (Seq ℕ)) (f : ℕ) (ms : Members) → LeadsFrom m g path (name ∷ names) f → Misses f (fields_among m g path ms) → items_at ms name names ≡ []
  none_at m g path name names f no_members leads misses = refl
  none_at m g path name names f (member k d ms) leads misses =
      let below : ℕ → Seq ℕ = λ n. fields_below m g (field_at m n).path d in
      let parts = misses_parts f (field_and (field_below m g path k) below) (fields_among m g path ms) misses in
      split (bytes_eq k name)
      (λ same.
      let is : k ≡ name = (bytes_eq-Decides k name).0 same in
      let here : field_below m g path k ≡ Some leads.0 = ap (field_below m g path) is ∙ leads.1 in
      let missed : Misses f (field_and (Some leads.0) below) = subst (λ (o : Option ℕ). Misses f (field_and o below)) here parts.0 in
      rw same (none_below m g leads.0 names f d leads.2 missed (λ further. none m g (field_at m leads.0).path names f d further missed.1)))
      (λ other. rw other (none_at m g path name names f ms leads parts.1))

-- ---- inside the objects at a field

-- with no name left a list has its elements, and else the value is the one item
mutual
  whole_value : (m : Mapping) (g h f : ℕ) (d : JsonValue) → Misses f (fields_below m g (field_at m h).path d) → AllByRecursion (λ w. Misses f (fields_below m g (field_at m h).path w)) (items d [])
  whole_value m g h f null misses = tt
  whole_value m g h f (bool b) misses = (tt, tt)
  whole_value m g h f (whole z) misses = (tt, tt)
  whole_value m g h f (text s) misses = (tt, tt)
  whole_value m g h f (list ds) misses = whole_values m g h f ds misses
  whole_value m g h f (object ms) misses = (misses, tt)

  whole_values : (m : Mapping) (g h f : ℕ) (ds : Elements) → Misses f (fields_in m g (field_at m h).path ds) → AllByRecursion (λ w. Misses f (fields_below m g (field_at m h).path w)) (items_in ds [])
  whole_values m g h f no_elements misses = tt
  whole_values m g h f (element d ds) misses =
      let parts = misses_parts f (fields_below m g (field_at m h).path d) (fields_in m g (field_at m h).path ds) misses in
      each_append (λ w. Misses f (fields_below m g (field_at m h).path w)) (items d []) (items_in ds []) (whole_value m g h f d parts.0) (whole_values m g h f ds parts.1)

inside_below : (m : Mapping) (g h : ℕ) (names : Seq (Seq ℕ)) (e f : ℕ) (d : JsonValue) → Leads m g h names e → Misses f (fields_below m g (field_at m h).path d)
    → (LeadsFrom m g (field_at m h).path names e → AllByRecursion (λ w. Misses f (fields_below m g (field_at m e).path w)) (items d names))
    → AllByRecursion (λ w. Misses f (fields_below m g (field_at m e).path w)) (items d names)
inside_below m g h [] e f d leads misses further = subst (λ (n : ℕ). AllByRecursion (λ w. Misses f (fields_below m g (field_at m n).path w)) (items d [])) leads (whole_value m g h f d misses)
inside_below m g h (name ∷ names) e f d leads misses further = further leads

-- the items at a field miss what the value misses
mutual
  inside : (m : Mapping) (g : ℕ) (path : Seq ℕ) (names : Seq (Seq ℕ)) (e f : ℕ) (v : JsonValue) → LeadsFrom m g path names e → Misses f (fields_below m g path v)
      → AllByRecursion (λ w. Misses f (fields_below m g (field_at m e).path w)) (items v names)
  inside m g path [] e f v leads misses = absurd leads
  inside m g path (name ∷ names) e f null leads misses = tt
  inside m g path (name ∷ names) e f (bool b) leads misses = tt
  inside m g path (name ∷ names) e f (whole z) leads misses = tt
  inside m g path (name ∷ names) e f (text s) leads misses = tt
  inside m g path (name ∷ names) e f (list ds) leads misses = inside_in m g path (name ∷ names) e f ds leads misses
  inside m g path (name ∷ names) e f (object ms) leads misses = inside_at m g path name names e f ms leads misses

  inside_in : (m : Mapping) (g : ℕ) (path : Seq ℕ) (names : Seq (Seq ℕ)) (e f : ℕ) (ds : Elements) → LeadsFrom m g path names e → Misses f (fields_in m g path ds)
      → AllByRecursion (λ w. Misses f (fields_below m g (field_at m e).path w)) (items_in ds names)
  inside_in m g path names e f no_elements leads misses = tt
  inside_in m g path names e f (element d ds) leads misses =
      let parts = misses_parts f (fields_below m g path d) (fields_in m g path ds) misses in
      each_append (λ w. Misses f (fields_below m g (field_at m e).path w)) (items d names) (items_in ds names) (inside m g path names e f d leads parts.0) (inside_in m g path names e f ds leads parts.1)

  inside_at : (m : Mapping) (g : ℕ) (path name : Seq ℕ) (names : Seq (Seq ℕ)) (e f : ℕ) (ms : Members) → LeadsFrom m g path (name ∷ names) e → Misses f (fields_among m g path ms)
      → AllByRecursion (λ w. Misses f (fields_below m g (field_at m e).path w)) (items_at ms name names)
  inside_at m g path name names e f no_members leads misses = tt
  inside_at m g path name names e f (member k d ms) leads misses =
      let below : ℕ → Seq ℕ = λ n. fields_below m g (field_at m n).path d in
      let parts = misses_parts f (field_and (field_below m g path k) below) (fields_among m g path ms) misses in
      split (bytes_eq k name)
      (λ same.
      let is : k ≡ name = (bytes_eq-Decides k name).0 same in
      let here : field_below m g path k ≡ Some leads.0 = ap (field_below m g path) is ∙ leads.1 in
      let missed : Misses f (field_and (Some leads.0) below) = subst (λ (o : Option ℕ). Misses f (field_and o below)) here parts.0 in
      rw same (inside_below m g leads.0 names e f d leads.2 missed.1 (λ further. inside m g (field_at m leads.0).path names e f d further missed.1)))
      (λ other. rw other (inside_at m g path name names e f ms leads parts.1))

-- ---- shown fields

kept_all : (P : JsonValue → Type 0) (vs : Seq JsonValue) → AllByRecursion P vs → AllByRecursion P (filter is_object vs)
kept_all P [] all = tt
kept_all P (v ∷ vs) all = split (is_object v) (λ yes. rw yes (all.0, kept_all P vs all.1)) (λ no. rw no (kept_all P vs all.1))

-- a field at an object of its home
own_none : (m : Mapping) (g f : ℕ) (v : JsonValue) → IsMapping m → AreReached m → f < length m.fields → Misses f (fields_below m g (scope_at m (home_of m f)).path v) → own_items m g f v ≡ []
own_none m g f v is reached h misses =
    split (knows m g f)
    (λ held.
    let known : (field_at m f).since ≤ g = leb-true (field_at m f).since g held in
    rw held (none m g (scope_at m (home_of m f)).path (names_to m f) f v (leads_down m g f (scope_at m (home_of m f)).path reached h known (is.home f h).above) misses))
    (λ failed. rw failed refl)

-- the objects at a nested path miss what the object around them misses
children_miss : (m : Mapping) (g f s n : ℕ) (v : JsonValue) → IsMapping m → AreReached m → IsKid m s n → Misses f (fields_below m g (scope_at m s).path v)
    → AllByRecursion (λ w. Misses f (fields_below m g (scope_at m n).path w)) (children_at m g n v)
children_miss m g f s n v is reached kid misses =
    split (nat_le (scope_at m n).since g)
    (λ held.
    let field = reached.scopes n kid.positive kid.in_range in
    let since = field.3 in
    let known : (scope_at m n).since ≤ g = leb-true (scope_at m n).since g held in
    let near = is.around n kid.positive kid.in_range in
    let home : outer m n ≡ s = kid.home in
    let over : lies_above (scope_at m s).path (field_at m field.0).path ≡ true = rw (sym home, field.2) near.above in
    let names : names_between (scope_at m s).path (field_at m field.0).path ≡ (scope_at m n).names = rw (sym home, field.2) (sym (is.names n kid.in_range)) in
    let leads : LeadsFrom m g (scope_at m s).path (scope_at m n).names field.0 =
    subst (λ (ns : Seq (Seq ℕ)). LeadsFrom m g (scope_at m s).path ns field.0) names (leads_down m g field.0 (scope_at m s).path reached field.1 (omega (arith, since, known)) over) in
    let all = inside m g (scope_at m s).path (scope_at m n).names field.0 f v leads misses in
    let same : AllByRecursion (λ w. Misses f (fields_below m g (scope_at m n).path w)) (items v (scope_at m n).names) =
    subst (λ (p : Seq ℕ). AllByRecursion (λ w. Misses f (fields_below m g p w)) (items v (scope_at m n).names)) field.2 all in
    rw held (kept_all (λ w. Misses f (fields_below m g (scope_at m n).path w)) (items v (scope_at m n).names) same))
    (λ failed. rw failed tt)

own_each : (m : Mapping) (g f : ℕ) (ns : Seq ℕ) (vs : Seq JsonValue) → AllByRecursion (λ v. flat_map (own_items m g f) (along m g ns v) ≡ []) vs → flat_map (own_items m g f) (flat_map (along m g ns) vs) ≡ []
own_each m g f ns [] all = refl
own_each m g f ns (v ∷ vs) all =
    flat_map-append (own_items m g f) (along m g ns v) (flat_map (along m g ns) vs) ∙ rw (all.0, own_each m g f ns vs all.1) refl

-- a field inside an object of a scope that is its home or lies above it
below_none : (m : Mapping) (g f left s : ℕ) (v : JsonValue) → IsMapping m → AreReached m → f < length m.fields → IsUpTo m s (home_of m f) → home_of m f ≤ s + left
    → Misses f (fields_below m g (scope_at m s).path v) → flat_map (own_items m g f) (along m g (way m s (home_of m f)) v) ≡ []
below_none m g f left s v is reached h (inl same) near misses =
    let none : own_items m g f v ≡ [] = own_none m g f v is reached h (subst (λ (n : ℕ). Misses f (fields_below m g (scope_at m n).path v)) same misses) in
    subst (λ (n : ℕ). flat_map (own_items m g f) (along m g (way m n (home_of m f)) v) ≡ []) (sym same) (rw (way_none m (home_of m f), none) refl)
below_none m g f zero s v is reached h (inr above) near misses = absurd (omega (arith, near, above_lt m s (home_of m f) is above))
below_none m g f (suc left) s v is reached h (inr above) near misses =
    let next = toward m s (home_of m f) is above in
    let n : ℕ = next.0 in
    let step = next.1 in
    let fall = is.behind n step.kid.positive in
    let all : AllByRecursion (λ w. flat_map (own_items m g f) (along m g (way m n (home_of m f)) w) ≡ []) (children_at m g n v) =
    each_from (λ w. Misses f (fields_below m g (scope_at m n).path w)) (λ w. flat_map (own_items m g f) (along m g (way m n (home_of m f)) w) ≡ [])
    (λ w missed. below_none m g f left n w is reached h step.up_to (omega (arith, near, fall, step.kid.home)) missed) (children_at m g n v) (children_miss m g f s n v is reached step.kid misses) in
    rw step.way (own_each m g f (way m n (home_of m f)) (children_at m g n v) all)

included_if : (m : Mapping) (g f s : ℕ) → shows m g f s ≡ true → included m f s ≡ true
included_if m g f s shown = (both (knows m g f) (included m f s) shown).1

pub shows_nothing : (m : Mapping) (g f s : ℕ) (v : JsonValue) → IsMapping m → AreReached m → f < length m.fields → Misses f (fields_below m g (scope_at m s).path v) → shown_items m g f s v ≡ []
shows_nothing m g f s v is reached h misses =
    split (home_of m f == s)
    (λ here.
    let home : home_of m f ≡ s = eqb-true (home_of m f) s here in
    rw here (own_none m g f v is reached h (subst (λ (n : ℕ). Misses f (fields_below m g (scope_at m n).path v)) (sym home) misses)))
    (λ other. split (shows m g f s)
    (λ shown.
    let up : IsUpTo m s (home_of m f) = elim (included_up m f s is h (included_if m g f s shown)) [
      | inl same ↦ inl (sym same)
      | inr above ↦ inr above
    ] in
    rw (other, shown) (below_none m g f (home_of m f) s v is reached h up (omega arith) misses))
    (λ hidden. rw (other, hidden) refl))
