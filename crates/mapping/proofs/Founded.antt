-- The mapping of bodies has what `IsMapping` asks.
use Rattle.std.proofs.Common.{◌≡◌, ℕ, zero, suc, ◌+◌, ◌-◌, ◌<◌, ◌≤◌, ◌^◌, inl, inr, Bool, true, false, List, [], ◌∷◌, length, map, filter, get_or, refl, sym, ap, ◌∙◌, subst, arith, Some}
use Rattle.std.proofs.lemmas.Bool.{cases_lt, cases_order, false≢true}
use Rattle.std.proofs.lemmas.List.{get_or_past, length-map, get_or-map}
use Rattle.std.proofs.lemmas.Slice.Eq.{bytes_eq-Decides}
use Rattle.std.specs.List.{AllByRecursion, list_all, range_with_len}
use Rattle.std.specs.List.Sorted.{IsPermutation}
use Rattle.tree_json.specs.Value.{JsonValue}
use Rattle.mapping_body.specs.declared.kind.Kind.{Kind}
use Rattle.mapping_body.specs.declared.kind.Kind.TheVariants.{Text, Keyword, Long, Boolean, Date, Object, Nested, Join}
use Rattle.mapping_growth.specs.Bodies.{AreBodies}
use Rattle.mapping_body.specs.Body.{is_body, is_nested}
use Rattle.mapping_growth.specs.Fields.{Draft, draft_paths, drafts_of}
use Rattle.mapping_body.specs.Names.{AreAscending, lies_above, names_between, place_of}
use Rattle.mapping_body.specs.Order.{AreDistinct, name_at, order_from}
use Rattle.mapping_growth.specs.Relations.{relations_of}
use Rattle.mapping_body.proofs.Ascending.{not_itself}
use Rattle.mapping_body.proofs.Closed.{has_name}
use Rattle.mapping_growth.proofs.Fitting.{fit}
use Rattle.mapping_growth.proofs.Climbs.{not_itself as not_own_ancestor}
use Rattle.mapping_growth.proofs.Founding.{parent_within}
use Rattle.mapping_body.proofs.Puts.{AreAscending-in_byte_order, put_all-after}
use Rattle.mapping_body.proofs.Ordered.{is_order, order_permutes, place_is}
use Rattle.mapping_body.proofs.Ranks.{AllAfter}
use Rattle.mapping_body.proofs.Walks.{split}
use Rattle.mapping.specs.IsMapping.{IsMapping, IsNearestAbove}
use Rattle.mapping.specs.Mapping.{Field, Mapping, field_at, field_by, field_named, home_of, kind_at, mapping_by, mapping_of, nearest, nested_among, no_field, no_relation, outer, root_scope, scope_at, scope_by, scope_paths, scopes_by}
use Rattle.mapping.specs.Stored.{IsKept, scope_parts, scope_seen}
use Rattle.mapping.specs.declared.scope.ScopePath.{ScopePath}
use Rattle.mapping.specs.declared.scope.Scope.{Scope as Part}
use Rattle.mapping_growth.specs.declared.draft.Draft.{Draft as Made}
use Rattle.mapping_growth.specs.Kept.{made_of}
use Rattle.mapping.proofs.Above.{above_less, above_nothing, above_in_range, above_parts}
use Rattle.mapping.proofs.InTurn.{AreFounded, AreInTurn, StandsBefore, founded}
use Rattle.mapping.proofs.Nearest.{nearest_last, paths_at, arounds_at, names_at, homes_at, field_paths_at}

abbrev pub no_draft : Draft
no_draft = record { path = []; kind = Object; in_parent = false; in_root = false; since = 0 }

abbrev pub at : List Draft → ℕ → Draft
at ds i = get_or ds i no_draft

-- ---- fields in turn, by their numbers

pub all_at : (P : Draft → Type 0) (ds : List Draft) (i : ℕ) → AllByRecursion P ds → i < length ds → P (at ds i)
all_at P [] i all h = absurd (omega arith)
all_at P (d ∷ ds) zero all h = all.0
all_at P (d ∷ ds) (suc i) all h = all_at P ds i all.1 (omega arith)

pub turn_at : (ds : List Draft) (i j : ℕ) → AreInTurn ds → i < j → j < length ds → StandsBefore (at ds i) (at ds j)
turn_at [] i j turn h k = absurd (omega arith)
turn_at (d ∷ ds) i zero turn h k = absurd (omega arith)
turn_at (d ∷ ds) zero (suc j) turn h k = all_at (StandsBefore d) ds j turn.0 (omega arith)
turn_at (d ∷ ds) (suc i) (suc j) turn h k = turn_at ds i j turn.1 (omega arith) (omega arith)

filtered : (t : Draft → Bool) (P : Draft → Type 0) (ds : List Draft) → AllByRecursion P ds → AllByRecursion P (filter t ds)
filtered t P [] all = tt
filtered t P (d ∷ ds) all =
    split (t d)
    (λ held. rw held (all.0, filtered t P ds all.1))
    (λ failed. rw failed (filtered t P ds all.1))

turn_filter : (t : Draft → Bool) (ds : List Draft) → AreInTurn ds → AreInTurn (filter t ds)
turn_filter t [] turn = tt
turn_filter t (d ∷ ds) turn =
    split (t d)
    (λ held. rw held (filtered t (StandsBefore d) ds turn.0, turn_filter t ds turn.1))
    (λ failed. rw failed (turn_filter t ds turn.1))

pub above_before : (ds : List Draft) (i j : ℕ) → AreInTurn ds → i < length ds → j < length ds → lies_above (at ds i).path (at ds j).path ≡ true → i < j
above_before ds i j turn h k over = elim (cases_order i j) [
  | inl same ↦ absurd (not_itself (at ds j).path (above_less (at ds j).path (at ds j).path (subst (λ (n : ℕ). lies_above (at ds n).path (at ds j).path ≡ true) same over)))
  | inr rest ↦ elim rest [
    | inl before ↦ before
    | inr behind ↦ absurd (false≢true (sym (turn_at ds j i turn behind h).not_below ∙ over))
  ]
]

pub same_place : (ds : List Draft) (i j : ℕ) → AreInTurn ds → i < length ds → j < length ds → (at ds i).path ≡ (at ds j).path → i ≡ j
same_place ds i j turn h k same = elim (cases_order i j) [
  | inl equal ↦ equal
  | inr rest ↦ elim rest [
    | inl before ↦ absurd ((turn_at ds i j turn before k).differs same)
    | inr behind ↦ absurd ((turn_at ds j i turn behind h).differs (sym same))
  ]
]

pub path_at : (ds : List Draft) (i : ℕ) → get_or (draft_paths ds) i [] ≡ (at ds i).path
path_at [] i = refl
path_at (d ∷ ds) zero = refl
path_at (d ∷ ds) (suc i) = path_at ds i

-- a field of those that pass a test is one of all
pub record StandsAmong (ds : List Draft) (d : Draft) : Type 0 where
  pub number : ℕ
  pub within : number < length ds
  pub is : at ds number ≡ d

later : (d : Draft) (ds : List Draft) (e : Draft) → StandsAmong ds e → StandsAmong (d ∷ ds) e
later d ds e among = record { number = suc among.number; within = omega (arith, among.within); is = among.is }

picked : (t : Draft → Bool) (d : Draft) (ds : List Draft) (k : ℕ) → k < length (d ∷ filter t ds) → t d ≡ true
    → ((j : ℕ) → j < length (filter t ds) → StandsAmong ds (at (filter t ds) j) × (t (at (filter t ds) j) ≡ true))
    → StandsAmong (d ∷ ds) (at (d ∷ filter t ds) k) × (t (at (d ∷ filter t ds) k) ≡ true)
picked t d ds zero h held rest = (record { number = 0; within = omega arith; is = refl }, held)
picked t d ds (suc k) h held rest = let one = rest k (omega arith) in (later d ds (at (filter t ds) k) one.0, one.1)

pub among_filtered : (t : Draft → Bool) (ds : List Draft) (k : ℕ) → k < length (filter t ds) → StandsAmong ds (at (filter t ds) k) × (t (at (filter t ds) k) ≡ true)
among_filtered t [] k h = absurd (omega arith)
among_filtered t (d ∷ ds) k h =
    split (t d)
    (λ held. rw held (picked t d ds k (rw held at h) held (among_filtered t ds)))
    (λ failed. let rest = among_filtered t ds k (rw failed at h) in rw failed (later d ds (at (filter t ds) k) rest.0, rest.1))

passing_stands : (t : Draft → Bool) (ds : List Draft) (i : ℕ) → i < length ds → t (at ds i) ≡ true → StandsAmong (filter t ds) (at ds i)
passing_stands t [] i h passes = absurd (omega arith)
passing_stands t (d ∷ ds) zero h passes = rw passes (record { number = 0; within = omega arith; is = refl })
passing_stands t (d ∷ ds) (suc i) h passes =
    let rest = passing_stands t ds i (omega arith) passes in
    split (t d)
    (λ held. rw held (later d (filter t ds) (at ds i) rest))
    (λ failed. rw failed rest)

nested_is : (k : Kind) → is_nested k ≡ true → k ≡ Nested
nested_is Text h = absurd (false≢true h)
nested_is Keyword h = absurd (false≢true h)
nested_is Long h = absurd (false≢true h)
nested_is Boolean h = absurd (false≢true h)
nested_is Date h = absurd (false≢true h)
nested_is Object h = absurd (false≢true h)
nested_is Nested h = refl
nested_is Join h = absurd (false≢true h)

map_same : {A B : Type 0} (f g : A → B) → ((x : A) → f x ≡ g x) → (xs : List A) → map f xs ≡ map g xs
map_same f g same [] = refl
map_same f g same (x ∷ xs) = rw (same x, map_same f g same xs) refl

pub fields_by_paths : (paths : List (List ℕ)) (ds : List Draft) → map (λ f. f.path) (map (field_by paths) ds) ≡ draft_paths ds
fields_by_paths paths [] = refl
fields_by_paths paths (d ∷ ds) = ap (λ (rest : List (List ℕ)). d.path ∷ rest) (fields_by_paths paths ds)

pub field_is : (paths : List (List ℕ)) (ds : List Draft) (i : ℕ) (none : Field) → i < length ds → get_or (map (field_by paths) ds) i none ≡ field_by paths (at ds i)
field_is paths ds i none h = get_or-map (field_by paths) ds i no_draft none h

pub scope_is : (paths : List (List ℕ)) (ds : List Draft) (i : ℕ) → i < length ds → get_or (map (scope_by paths) ds) i root_scope ≡ scope_by paths (at ds i)
scope_is paths ds i h = get_or-map (scope_by paths) ds i no_draft root_scope h

-- ---- the mapping

module _ (bodies : List JsonValue) (dynamic : Bool) (ds : List Draft) (g : ℕ) (is : AreFounded (suc g) ds) (many : g ≡ length bodies) (positive : 0 < g) where
  abbrev nested : List Draft
  nested = nested_among ds

  abbrev made : Mapping
  made = mapping_by bodies dynamic ds

  nested_turn : AreInTurn nested
  nested_turn = turn_filter (λ d. is_nested d.kind) ds is.turn

  count_is : length made.scopes ≡ length (scope_paths ds)
  count_is = rw (length-map nested (scope_by (scope_paths ds)), length-map nested (λ d. d.path)) refl

  nested_count : length made.scopes ≡ suc (length nested)
  nested_count = rw (length-map nested (scope_by (scope_paths ds))) refl

  path_is : (n : ℕ) → (scope_at made n).path ≡ get_or (scope_paths ds) n []
  path_is zero = refl
  path_is (suc k) = paths_at (scope_paths ds) nested k

  -- a field or a scope has a path below the root's
  some_at : (i : ℕ) → i < length ds → lies_above [] (at ds i).path ≡ true
  some_at i h = (all_at (λ (d : Draft). (lies_above [] d.path ≡ true) × ((a : List ℕ) → lies_above [] a ≡ true → lies_above a d.path ≡ true → has_name (draft_paths ds) a ≡ true)) ds i is.above h).0

  some_nested : (k : ℕ) → k < length nested → lies_above [] (at nested k).path ≡ true
  some_nested k h =
      let among = (among_filtered (λ d. is_nested d.kind) ds k h).0 in
      subst (λ (d : Draft). lies_above [] d.path ≡ true) among.is (some_at among.number among.within)

  scope_path : (k : ℕ) → get_or (scope_paths ds) (suc k) [] ≡ (at nested k).path
  scope_path k = path_at nested k

  earlier : (a b : ℕ) → a < length (scope_paths ds) → b < length (scope_paths ds) → lies_above (get_or (scope_paths ds) a []) (get_or (scope_paths ds) b []) ≡ true → a < b
  earlier a zero h k over = absurd (false≢true (sym (above_nothing (get_or (scope_paths ds) a [])) ∙ over))
  earlier zero (suc b) h k over = omega arith
  earlier (suc a) (suc b) h k over =
      let long = length-map nested (λ d. d.path) in
      let less = above_before nested a b nested_turn (omega (arith, long)) (omega (arith, long)) (subst (λ (p : List ℕ). lies_above p (at nested b).path ≡ true) (scope_path a) (subst (λ (p : List ℕ). lies_above (get_or (scope_paths ds) (suc a) []) p ≡ true) (scope_path b) over)) in
      omega (arith, less)

  distinct : AreDistinct (scope_paths ds)
  distinct zero zero h k same = refl
  distinct zero (suc b) h k same =
      let long = length-map nested (λ d. d.path) in
      let some = some_nested b (omega (arith, long)) in
      let never : lies_above [] [] ≡ true = subst (λ (p : List ℕ). lies_above [] p ≡ true) (sym (scope_path b) ∙ sym same) some in
      absurd (false≢true never)
  distinct (suc a) zero h k same =
      let long = length-map nested (λ d. d.path) in
      let some = some_nested a (omega (arith, long)) in
      let never : lies_above [] [] ≡ true = subst (λ (p : List ℕ). lies_above [] p ≡ true) (sym (scope_path a) ∙ same) some in
      absurd (false≢true never)
  distinct (suc a) (suc b) h k same =
      let long = length-map nested (λ d. d.path) in
      ap suc (same_place nested a b nested_turn (omega (arith, long)) (omega (arith, long)) (sym (scope_path a) ∙ same ∙ scope_path b))

  near : (path : List ℕ) → lies_above [] path ≡ true → IsNearestAbove made path (nearest (scope_paths ds) path)
  near path some =
      let last = nearest_last (draft_paths nested) path some in
      let least = last.in_range in
      let inside : nearest (scope_paths ds) path < length made.scopes = rw count_is least in
      record {
        in_range = inside;
        above = rw (path_is (nearest (scope_paths ds) path)) last.above;
        none_between = λ other above.
            let within : other < length (scope_paths ds) = rw (sym count_is) (above_in_range made (nearest (scope_paths ds) path) other above) in
            let over : lies_above (get_or (scope_paths ds) (nearest (scope_paths ds) path) []) (get_or (scope_paths ds) other []) ≡ true =
            rw (sym (path_is (nearest (scope_paths ds) path)), sym (path_is other)) (above_parts made (nearest (scope_paths ds) path) other above).1 in
            rw (path_is other) (last.none_later other (earlier (nearest (scope_paths ds) path) other least within over) within);
      }

  nested_within : (k : ℕ) → suc k < length made.scopes → k < length nested
  nested_within k h = omega (arith, nested_count, h)

  around_is : (k : ℕ) → suc k < length made.scopes → outer made (suc k) ≡ nearest (scope_paths ds) (scope_at made (suc k)).path
  around_is k h = arounds_at (scope_paths ds) nested k (nested_within k h) ∙ ap (nearest (scope_paths ds)) (sym (paths_at (scope_paths ds) nested k))

  path_below_root : (k : ℕ) → suc k < length made.scopes → lies_above [] (scope_at made (suc k)).path ≡ true
  path_below_root k h = rw (path_is (suc k), scope_path k) (some_nested k (nested_within k h))

  around : (n : ℕ) → 0 < n → n < length made.scopes → IsNearestAbove made (scope_at made n).path (outer made n)
  around zero h k = absurd (omega arith)
  around (suc n) h k = rw (around_is n k) (near (scope_at made (suc n)).path (path_below_root n k))

  behind : (n : ℕ) → 0 < n → outer made n < n
  behind n h = elim (cases_lt n (length made.scopes)) [
    | inr past ↦ rw (get_or_past made.scopes n root_scope past) h
    | inl inside ↦
        let here = around n h inside in
        earlier (outer made n) n (rw (sym count_is) here.in_range) (rw (sym count_is) inside) (rw (sym (path_is (outer made n)), sym (path_is n)) here.above)
  ]

  names_are : (n : ℕ) → n < length made.scopes → (scope_at made n).names ≡ names_between (scope_at made (outer made n)).path (scope_at made n).path
  names_are zero h = refl
  names_are (suc k) h =
      names_at (scope_paths ds) nested k (nested_within k h)
      ∙ ap (names_between (get_or (scope_paths ds) (outer made (suc k)) [])) (sym (path_is (suc k)))
      ∙ ap (λ (p : List ℕ). names_between p (scope_at made (suc k)).path) (sym (path_is (outer made (suc k))))

  home : (f : ℕ) → f < length made.fields → IsNearestAbove made (field_at made f).path (home_of made f)
  home f h =
      let inside : f < length ds = rw (sym (length-map ds (field_by (scope_paths ds)))) h in
      rw (homes_at (scope_paths ds) ds f inside) (near (field_at made f).path (rw (field_paths_at (scope_paths ds) ds f, path_at ds f) (some_at f inside)))

  -- ---- generations

  since_is : (k : ℕ) → k < length nested → (scope_at made (suc k)).since ≡ (at nested k).since
  since_is k h = ap (λ s. s.since) (scope_is (scope_paths ds) nested k h)

  bound_at : (i : ℕ) → i < length ds → (0 < (at ds i).since) × ((at ds i).since < suc g)
  bound_at i h = all_at (λ (d : Draft). (0 < d.since) × (d.since < suc g)) ds i is.before h

  bound_nested : (k : ℕ) → k < length nested → (0 < (at nested k).since) × ((at nested k).since < suc g)
  bound_nested k h =
      let among = (among_filtered (λ d. is_nested d.kind) ds k h).0 in
      subst (λ (d : Draft). (0 < d.since) × (d.since < suc g)) among.is (bound_at among.number among.within)

  since_rises : (a n : ℕ) → a < n → n < length made.scopes → (scope_at made a).since ≤ (scope_at made n).since
  since_rises a zero h k = absurd (omega arith)
  since_rises zero (suc n) h k = rw (since_is n (nested_within n k)) (omega (arith, (bound_nested n (nested_within n k)).0))
  since_rises (suc a) (suc n) h k =
      let inside = nested_within n k in
      rw (since_is a (omega (arith, inside)), since_is n inside) (turn_at nested a n nested_turn (omega arith) inside).rising

  known_from : (h f : ℕ) → h < length made.scopes → f < length ds → lies_above (scope_at made h).path (at ds f).path ≡ true → (scope_at made h).since ≤ (at ds f).since
  known_from zero f within inside over = omega (arith, (bound_at f inside).0)
  known_from (suc k) f within inside over =
      let here = nested_within k within in
      let among = (among_filtered (λ d. is_nested d.kind) ds k here).0 in
      let path : (scope_at made (suc k)).path ≡ (at ds among.number).path = path_is (suc k) ∙ scope_path k ∙ ap (λ d. d.path) (sym among.is) in
      let less = above_before ds among.number f is.turn among.within inside (subst (λ (p : List ℕ). lies_above p (at ds f).path ≡ true) path over) in
      let rises = (turn_at ds among.number f is.turn less inside).rising in
      rw (since_is k here) (subst (λ (d : Draft). d.since ≤ (at ds f).since) among.is rises)

  known : (f : ℕ) → f < length made.fields → (scope_at made (home_of made f)).since ≤ (field_at made f).since
  known f h =
      let inside : f < length ds = rw (sym (length-map ds (field_by (scope_paths ds)))) h in
      let near_home = home f h in
      let field_here = field_is (scope_paths ds) ds f no_field inside in
      rw (ap (λ x. x.since) field_here)
      (known_from (home_of made f) f near_home.in_range inside (subst (λ (p : List ℕ). lies_above (scope_at made (home_of made f)).path p ≡ true) (ap (λ x. x.path) field_here) near_home.above))

  scope_added : (n : ℕ) → n < length made.scopes → (scope_at made n).since ≤ length made.bodies
  scope_added zero h = omega (arith, many, positive)
  scope_added (suc k) h = let inside = nested_within k h in rw (since_is k inside) (omega (arith, many, (bound_nested k inside).1))

  field_added : (f : ℕ) → f < length made.fields → (field_at made f).since ≤ length made.bodies
  field_added f h =
      let inside : f < length ds = rw (sym (length-map ds (field_by (scope_paths ds)))) h in
      rw (ap (λ x. x.since) (field_is (scope_paths ds) ds f no_field inside)) (omega (arith, many, (bound_at f inside).1))

  numbers : IsPermutation (range_with_len 1 (length made.scopes - 1)) made.order
  numbers = rw count_is (order_permutes (scope_paths ds) distinct 1 (omega arith))

  ascending : AreAscending (map (λ n. (scope_at made n).path) made.order)
  ascending =
      rw (map_same (λ n. (scope_at made n).path) (name_at (scope_paths ds)) path_is made.order)
      (AreAscending-in_byte_order (name_at (scope_paths ds)) (range_with_len 1 (length (scope_paths ds) - 1)))

  field_paths : AreDistinct (draft_paths ds)
  field_paths a b h k same =
      let long = length-map ds (λ d. d.path) in
      same_place ds a b is.turn (omega (arith, long)) (omega (arith, long)) (sym (path_at ds a) ∙ same ∙ path_at ds b)

  has_field : (n : ℕ) → 0 < n → n < length made.scopes → (f : ℕ) × (f < length made.fields) × (field_named made (scope_at made n).path ≡ Some f) × (kind_at made f ≡ Nested)
  has_field zero h k = absurd (omega arith)
  has_field (suc k) h within =
      let inside = nested_within k within in
      let found = among_filtered (λ d. is_nested d.kind) ds k inside in
      let f = found.0.number in
      let path : (at ds found.0.number).path ≡ (scope_at made (suc k)).path = ap (λ d. d.path) found.0.is ∙ sym (scope_path k) ∙ sym (path_is (suc k)) in
      let named : name_at (draft_paths ds) found.0.number ≡ (scope_at made (suc k)).path = path_at ds found.0.number ∙ path in (
        found.0.number,
        rw (length-map ds (field_by (scope_paths ds))) found.0.within,
        ap (place_of (scope_at made (suc k)).path) (fields_by_paths (scope_paths ds) ds)
            ∙ place_is (scope_at made (suc k)).path (draft_paths ds) found.0.number field_paths (rw (length-map ds (λ d. d.path)) found.0.within) ((bytes_eq-Decides (name_at (draft_paths ds) found.0.number) (scope_at made (suc k)).path).1 named),
        ap (λ x. x.kind) (field_is (scope_paths ds) ds found.0.number no_field found.0.within)
            ∙ nested_is (at ds found.0.number).kind (subst (λ (d : Draft). is_nested d.kind ≡ true) (sym found.0.is) found.1),
      )

  has_scope : (f : ℕ) → f < length made.fields → kind_at made f ≡ Nested → (n : ℕ) × (0 < n) × (n < length made.scopes) × ((scope_at made n).path ≡ (field_at made f).path)
  has_scope f h kind =
      let inside : f < length ds = rw (sym (length-map ds (field_by (scope_paths ds)))) h in
      let field_here = field_is (scope_paths ds) ds f no_field inside in
      let passes : is_nested (at ds f).kind ≡ true = ap is_nested (sym (ap (λ x. x.kind) field_here) ∙ kind) in
      let stands = passing_stands (λ d. is_nested d.kind) ds f inside passes in (
        suc stands.number,
        omega arith,
        omega (arith, nested_count, stands.within),
        path_is (suc stands.number) ∙ scope_path stands.number ∙ ap (λ d. d.path) stands.is ∙ sym (ap (λ x. x.path) field_here),
      )

pub all_founded : (bodies : List JsonValue) → list_all is_body bodies ≡ true → AreFounded (suc (length bodies)) (drafts_of bodies)
all_founded bodies forms = let one : 1 + length bodies ≡ suc (length bodies) = omega arith in subst (λ (n : ℕ). AreFounded n (drafts_of bodies)) one (founded bodies forms)

pub is_mapping : (bodies : List JsonValue) (dynamic : Bool) → AreBodies bodies → IsMapping (mapping_of bodies dynamic)
is_mapping bodies dynamic are =
    let fields = all_founded bodies are.forms in
    record {
      root = refl;
      some = omega arith;
      distinct = λ a b h k same. distinct bodies dynamic (drafts_of bodies) (length bodies) fields refl are.some a b (rw (sym (count_is bodies dynamic (drafts_of bodies) (length bodies) fields refl are.some)) h) (rw (sym (count_is bodies dynamic (drafts_of bodies) (length bodies) fields refl are.some)) k)
          (sym (path_is bodies dynamic (drafts_of bodies) (length bodies) fields refl are.some a) ∙ same ∙ path_is bodies dynamic (drafts_of bodies) (length bodies) fields refl are.some b);
      around = around bodies dynamic (drafts_of bodies) (length bodies) fields refl are.some;
      behind = behind bodies dynamic (drafts_of bodies) (length bodies) fields refl are.some;
      names = names_are bodies dynamic (drafts_of bodies) (length bodies) fields refl are.some;
      home = home bodies dynamic (drafts_of bodies) (length bodies) fields refl are.some;
      since = λ n h k. since_rises bodies dynamic (drafts_of bodies) (length bodies) fields refl are.some _ n (behind bodies dynamic (drafts_of bodies) (length bodies) fields refl are.some n h) k;
      known = known bodies dynamic (drafts_of bodies) (length bodies) fields refl are.some;
      scope_added = scope_added bodies dynamic (drafts_of bodies) (length bodies) fields refl are.some;
      field_added = field_added bodies dynamic (drafts_of bodies) (length bodies) fields refl are.some;
      numbers = numbers bodies dynamic (drafts_of bodies) (length bodies) fields refl are.some;
      ascending = ascending bodies dynamic (drafts_of bodies) (length bodies) fields refl are.some;
      has_field = has_field bodies dynamic (drafts_of bodies) (length bodies) fields refl are.some;
      has_scope = has_scope bodies dynamic (drafts_of bodies) (length bodies) fields refl are.some;
      parents = λ r p e. parent_within bodies r p no_relation refl e;
      founded = λ r over. not_own_ancestor (relations_of bodies) r (fit bodies are.limits).founded over;
    }

pub scopes_distinct : (bodies : List JsonValue) → AreBodies bodies → AreDistinct (scope_paths (drafts_of bodies))
scopes_distinct bodies are = distinct bodies false (drafts_of bodies) (length bodies) (all_founded bodies are.forms) refl are.some

-- ---- what is kept

scopes_paths_from : (paths : List (List ℕ)) (ds : List Draft) → map (λ s. s.path) (map (scope_by paths) ds) ≡ draft_paths ds
scopes_paths_from paths [] = refl
scopes_paths_from paths (d ∷ ds) = ap (λ (rest : List (List ℕ)). d.path ∷ rest) (scopes_paths_from paths ds)

homes_are : (paths : List (List ℕ)) (ds : List Draft) → map (λ f. f.home) (map (field_by paths) ds) ≡ map (λ d. nearest paths d.path) ds
homes_are paths [] = refl
homes_are paths (d ∷ ds) = ap (λ (rest : List ℕ). nearest paths d.path ∷ rest) (homes_are paths ds)

after_range : (paths : List (List ℕ)) (a n : ℕ) → 0 < a → a + n ≤ length paths → ((k : ℕ) → 0 < k → k < length paths → lies_above [] (name_at paths k) ≡ true)
    → AllAfter [] (map (name_at paths) (range_with_len a n))
after_range paths a zero h within some = tt
after_range paths a (suc n) h within some =
    (above_less [] (name_at paths a) (some a h (omega arith)), after_range paths (a + 1) n (omega arith) (omega arith) some)

order_first : (nested : List (List ℕ)) → ((k : ℕ) → 0 < k → k < length ([] ∷ nested) → lies_above [] (name_at ([] ∷ nested) k) ≡ true) → order_from 0 ([] ∷ nested) ≡ 0 ∷ order_from 1 ([] ∷ nested)
order_first nested some =
    let all : length ([] ∷ nested) - 0 ≡ suc (length nested) = omega arith in
    let rest : length ([] ∷ nested) - 1 ≡ length nested = omega arith in
    let next : 0 + 1 ≡ 1 = omega arith in
    rw (all, rest) (rw next (put_all-after (name_at ([] ∷ nested)) 0 [] (range_with_len 1 (length nested)) (after_range ([] ∷ nested) 1 (length nested) (omega arith) (omega arith) some)))

some_scope : (bodies : List JsonValue) → AreBodies bodies → (k : ℕ) → 0 < k → k < length (scope_paths (drafts_of bodies)) → lies_above [] (name_at (scope_paths (drafts_of bodies)) k) ≡ true
some_scope bodies are zero h within = absurd (omega arith)
some_scope bodies are (suc k) h within =
    let long = length-map (nested_among (drafts_of bodies)) (λ d. d.path) in
    rw (path_at (nested_among (drafts_of bodies)) k) (some_nested bodies false (drafts_of bodies) (length bodies) (all_founded bodies are.forms) refl are.some k (omega (arith, long)))

pub kept : (bodies : List JsonValue) (dynamic : Bool) (ms : List Made) (hs : List ℕ) (ps : List ScopePath) (ss : List Part) (by_path : List ℕ) → AreBodies bodies → map made_of ms ≡ drafts_of bodies
    → map (λ p. p.bytes.items) ps ≡ scope_paths (map made_of ms) → map scope_seen ss ≡ map scope_parts (scopes_by (map made_of ms)) → hs ≡ map (λ d. nearest (map (λ p. p.bytes.items) ps) d.path) (map made_of ms)
    → by_path ≡ order_from 0 (map (λ p. p.bytes.items) ps) → length ps < 2 ^ 32 → IsKept (mapping_of bodies dynamic) hs ps ss by_path
kept bodies dynamic ms hs ps ss by_path are drafts paths scopes homes order few =
    let whole : map (λ p. p.bytes.items) ps ≡ scope_paths (drafts_of bodies) = paths ∙ ap scope_paths drafts in
    let named : map (λ s. s.path) (mapping_of bodies dynamic).scopes ≡ scope_paths (drafts_of bodies) = ap (λ (rest : List (List ℕ)). [] ∷ rest) (scopes_paths_from (scope_paths (drafts_of bodies)) (nested_among (drafts_of bodies))) in
    let some : (k : ℕ) → 0 < k → k < length (scope_paths (drafts_of bodies)) → lies_above [] (name_at (scope_paths (drafts_of bodies)) k) ≡ true = some_scope bodies are in
    let in_order : by_path ≡ order_from 0 (scope_paths (drafts_of bodies)) = order ∙ ap (order_from 0) whole in
    record {
      homes = homes ∙ ap (λ (names : List (List ℕ)). map (λ d. nearest names d.path) (map made_of ms)) whole ∙ ap (map (λ d. nearest (scope_paths (drafts_of bodies)) d.path)) drafts ∙ sym (homes_are (scope_paths (drafts_of bodies)) (drafts_of bodies));
      paths = whole ∙ sym named;
      scopes = scopes ∙ ap (λ (ds : List Draft). map scope_parts (scopes_by ds)) drafts;
      first = in_order ∙ order_first (draft_paths (nested_among (drafts_of bodies))) some;
      in_order = rw (named, in_order) (is_order (scope_paths (drafts_of bodies)) (scopes_distinct bodies are) 0 (omega arith));
      few_scopes = few;
      is_mapping = is_mapping bodies dynamic are;
    }
