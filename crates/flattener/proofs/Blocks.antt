-- A walk grows a block object by object.
use Rattle.std.proofs.Common.{◌≡◌, ℕ, zero, suc, ◌+◌, ◌-◌, ◌<◌, ◌==◌, List, [], ◌∷◌, ◌++◌, length, map, filter, get_or, refl, ap, ◌∙◌, arith}
use Rattle.std.proofs.lemmas.List.Concat.{flat_map-append}
use Rattle.std.proofs.lemmas.List.Elements.{filter-append}
use Rattle.std.proofs.lemmas.List.{map-append, length-append}
use Rattle.std.specs.List.{All, flat_map, range_with_len}
use Rattle.std.proofs.lemmas.List.FromFn.{get_or-range_with_len, length-range_with_len}
use Rattle.std.proofs.lemmas.List.Sorted.{All-permutation}
use Rattle.mapping.specs.IsMapping.{IsMapping}
use Rattle.mapping.specs.Mapping.{Mapping, outer}
use Rattle.tree_json.specs.Value.{JsonValue, Elements, element, Members, object, is_object}
use Rattle.tree_objects.specs.Object.{items, items_in}
use Rattle.mapping.proofs.Nearest.{append_nil}
use Rattle.mapping_body.proofs.Walks.{split, size_at}
use Rattle.flattener.proofs.Gathers.{items_member, items_without, items_end, items_end_whole, items_end_text, size_found}
use Rattle.flattener.proofs.Ways.{scope_names}
use Rattle.flattener.proofs.Weights.{element_light, member_light}
use Rattle.flattener.specs.Walked.{inner, inside_at, kid_part, walked, walked_of, flat_pair, flat_at}

pub walked_parts : (m : Mapping) (g left s : ℕ) (v : JsonValue) → walked m g left s v ≡ inner m g left s v ++ (s, v) ∷ []
walked_parts m g zero s v = refl
walked_parts m g (suc left) s v = refl

pub walked_flats : (m : Mapping) (g left s : ℕ) (v : JsonValue) → map (flat_pair m g) (walked m g left s v) ≡ map (flat_pair m g) (inner m g left s v) ++ flat_at m g s v ∷ []
walked_flats m g left s v = ap (map (flat_pair m g)) (walked_parts m g left s v) ∙ map-append (flat_pair m g) (inner m g left s v) ((s, v) ∷ [])

pub walked_length : (m : Mapping) (g left s : ℕ) (v : JsonValue) → length (walked m g left s v) ≡ length (inner m g left s v) + 1
walked_length m g left s v = ap length (walked_parts m g left s v) ∙ length-append (inner m g left s v) ((s, v) ∷ [])

pub inner_none : (m : Mapping) (g s : ℕ) (v : JsonValue) → inner m g 0 s v ≡ []
inner_none m g s v = refl

pub inner_all : (m : Mapping) (g left s : ℕ) (v : JsonValue) → 0 < left → inside_at m g (left - 1) s v m.order ≡ inner m g left s v
inner_all m g zero s v h = absurd (omega (arith, h))
inner_all m g (suc left) s v h = let less : suc left - 1 ≡ left = omega arith in rw less refl

inside_step : (m : Mapping) (g left s : ℕ) (v : JsonValue) (kid : ℕ) (ns : List ℕ) →
    inside_at m g left s v (kid ∷ ns) ≡ kid_part m g left s v kid ++ inside_at m g left s v ns
inside_step m g left s v kid ns =
    split (outer m kid == s)
    (λ is. rw is refl)
    (λ isnt. rw isnt refl)

pub inside_flats : (m : Mapping) (g left s : ℕ) (v : JsonValue) (kid : ℕ) (ns : List ℕ) →
    map (flat_pair m g) (inside_at m g left s v (kid ∷ ns)) ≡ map (flat_pair m g) (kid_part m g left s v kid) ++ map (flat_pair m g) (inside_at m g left s v ns)
inside_flats m g left s v kid ns = ap (map (flat_pair m g)) (inside_step m g left s v kid ns) ∙ map-append (flat_pair m g) (kid_part m g left s v kid) (inside_at m g left s v ns)

pub inside_length : (m : Mapping) (g left s : ℕ) (v : JsonValue) (kid : ℕ) (ns : List ℕ) →
    length (inside_at m g left s v (kid ∷ ns)) ≡ length (kid_part m g left s v kid) + length (inside_at m g left s v ns)
inside_length m g left s v kid ns = ap length (inside_step m g left s v kid ns) ∙ length-append (kid_part m g left s v kid) (inside_at m g left s v ns)

pub inside_over : (m : Mapping) (g left s : ℕ) (v : JsonValue) → inside_at m g left s v [] ≡ []
inside_over m g left s v = refl

-- the order has numbers of scopes alone
pub order_in_range : (m : Mapping) → IsMapping m → All (λ (n : ℕ). n < length m.scopes) m.order
order_in_range m is =
    All-permutation (λ (n : ℕ). n < length m.scopes) (range_with_len 1 (length m.scopes - 1)) m.order is.numbers
    (λ i d h. let at : get_or (range_with_len 1 (length m.scopes - 1)) i d ≡ 1 + i = get_or-range_with_len 1 (length m.scopes - 1) i d (omega (arith, h, length-range_with_len 1 (length m.scopes - 1))) in omega (arith, at, h, length-range_with_len 1 (length m.scopes - 1)))

-- ---- the items at a nested path

items_apart : (m : Mapping) (g left kid : ℕ) (vs ws : List JsonValue) → walked_of m g left kid (vs ++ ws) ≡ walked_of m g left kid vs ++ walked_of m g left kid ws
items_apart m g left kid vs ws =
    ap (flat_map (walked m g left kid)) (filter-append is_object vs ws)
    ∙ flat_map-append (walked m g left kid) (filter is_object vs) (filter is_object ws)

pub elements_flats : (m : Mapping) (g left kid : ℕ) (d : JsonValue) (ds : Elements) (names : List (List ℕ)) →
    map (flat_pair m g) (walked_of m g left kid (items_in (element d ds) names))
    ≡ map (flat_pair m g) (walked_of m g left kid (items d names)) ++ map (flat_pair m g) (walked_of m g left kid (items_in ds names))
elements_flats m g left kid d ds names =
    ap (map (flat_pair m g)) (items_apart m g left kid (items d names) (items_in ds names))
    ∙ map-append (flat_pair m g) (walked_of m g left kid (items d names)) (walked_of m g left kid (items_in ds names))

pub elements_length : (m : Mapping) (g left kid : ℕ) (d : JsonValue) (ds : Elements) (names : List (List ℕ)) →
    length (walked_of m g left kid (items_in (element d ds) names))
    ≡ length (walked_of m g left kid (items d names)) + length (walked_of m g left kid (items_in ds names))
elements_length m g left kid d ds names =
    ap length (items_apart m g left kid (items d names) (items_in ds names))
    ∙ length-append (walked_of m g left kid (items d names)) (walked_of m g left kid (items_in ds names))

pub object_walked : (m : Mapping) (g left kid : ℕ) (ms : Members) → walked_of m g left kid (object ms ∷ []) ≡ walked m g left kid (object ms)
object_walked m g left kid ms = append_nil (walked m g left kid (object ms))

pub ruleset blocks = (
  walked_flats,
  walked_length,
  inner_none,
  inner_all,
  inside_flats,
  inside_length,
  inside_over,
  elements_flats,
  elements_length,
  object_walked,
  order_in_range,
  scope_names,
  element_light,
  member_light,
  items_member,
  items_without,
  items_end,
  items_end_whole,
  items_end_text,
  size_found,
  size_at,
)
