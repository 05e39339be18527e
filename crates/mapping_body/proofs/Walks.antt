-- The walks of a body, and the properties that they meet.
use Rattle.std.proofs.Common.{◌≡◌, ℕ, zero, suc, ◌+◌, ◌<◌, List as Seq, [], ◌∷◌, ◌++◌, map, length, drop, get_or, subst, refl, sym, ap, arith, Bool, true, false, if◌then◌else◌, Option, Some, None, codes, bytes_eq}
use Rattle.tree_json.specs.Value.{JsonValue, Elements, no_elements, element, Members, no_members, member, member_of, members_of, elements_of, value_size, elements_size, members_size}
use Rattle.tree_json.specs.View.{view, values, entries}
use Rattle.tree_json.specs.declared.value.Json.{Json}
use Rattle.mapping_body.specs.Body.{Property, properties_among, properties_at, properties_below, properties_named}

-- ---- a member stands in its object

abbrev pub properties_found : Seq ℕ → Option JsonValue → Seq Property
properties_found path None = []
properties_found path (Some d) = properties_at path d

pub properties_by_member : (path : Seq ℕ) (ms : Members) → properties_among path ms ≡ properties_found path (member_of ms (codes "properties"))
properties_by_member path no_members = refl
properties_by_member path (member k d ms) =
    elim (bytes_eq k (codes "properties")) as (λ t. (if t then properties_at path d else properties_among path ms) ≡ properties_found path (if t then Some d else member_of ms (codes "properties")))
    [ true ↦ refl | false ↦ properties_by_member path ms ]

-- ---- sizes, for recursions that end

elements_positive : (ds : Elements) → 0 < elements_size ds
elements_positive no_elements = omega arith
elements_positive (element d ds) = omega (arith, elements_positive ds)

pub members_positive : (ms : Members) → 0 < members_size ms
members_positive no_members = omega arith
members_positive (member k d ms) = omega (arith, members_positive ms)

-- the two answers of a test
pub split : {G : Type 0} (t : Bool) → (t ≡ true → G) → (t ≡ false → G) → G
split true held failed = held refl
split false held failed = failed refl

pub member_smaller : (ms : Members) (name : Seq ℕ) (d : JsonValue) → member_of ms name ≡ Some d → value_size d < members_size ms
member_smaller no_members name d e = cc
member_smaller (member k v ms) name d e =
    split (bytes_eq k name)
    (λ same. let one : Some v ≡ Some d = rw same at e in let is : v ≡ d = cc in omega (arith, ap value_size is, members_positive ms))
    (λ other. omega (arith, member_smaller ms name d (rw other at e)))

pub size_at : (js : Seq Json) (i : ℕ) (d : Json) → i < length js → value_size (view (get_or js i d)) < elements_size (elements_of (values js))
size_at [] i d h = absurd (omega arith)
size_at (j ∷ js) zero d h = omega (arith, elements_positive (elements_of (values js)))
size_at (j ∷ js) (suc i) d h = let more : i < length js = omega arith in omega (arith, size_at js i d more)

pub member_size_at : (ms : Seq (Seq ℕ × Json)) (i : ℕ) (d : Seq ℕ × Json) → i < length ms → value_size (view (get_or ms i d).1) < members_size (members_of (entries ms))
member_size_at [] i d h = absurd (omega arith)
member_size_at (m ∷ ms) zero d h = omega (arith, members_positive (members_of (entries ms)))
member_size_at (m ∷ ms) (suc i) d h = let more : i < length ms = omega arith in omega (arith, member_size_at ms i d more)

pub ruleset sizes = (size_at, member_size_at)

pub ruleset outline_walks = (properties_by_member, member_smaller, member_size_at)
