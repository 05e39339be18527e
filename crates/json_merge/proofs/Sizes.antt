-- An element or a member is smaller than its list or object.
use Rattle.std.proofs.Common.{ℕ, zero, suc, ◌<◌, List as Seq, [], ◌∷◌, length, get_or, arith}
use Rattle.tree_json.specs.Value.{value_size, Elements, no_elements, element, elements_of, elements_size, Members, no_members, member, members_of, members_size}
use Rattle.tree_json.specs.View.{view, values, entries}
use Rattle.tree_json.specs.declared.value.Json.{Json}

elements_size-positive : (ds : Elements) → 0 < elements_size ds
elements_size-positive no_elements = omega arith
elements_size-positive (element d ds) = omega (arith, elements_size-positive ds)

members_size-positive : (ms : Members) → 0 < members_size ms
members_size-positive no_members = omega arith
members_size-positive (member k d ms) = omega (arith, members_size-positive ms)

pub size_at : (js : Seq Json) (i : ℕ) (d : Json) → i < length js → value_size (view (get_or js i d)) < elements_size (elements_of (values js))
size_at [] i d h = absurd (omega arith)
size_at (j ∷ js) zero d h = omega (arith, elements_size-positive (elements_of (values js)))
size_at (j ∷ js) (suc i) d h = let more : i < length js = omega arith in omega (arith, size_at js i d more)

pub member_size_at : (ms : Seq (Seq ℕ × Json)) (i : ℕ) (d : Seq ℕ × Json) → i < length ms → value_size (view (get_or ms i d).1) < members_size (members_of (entries ms))
member_size_at [] i d h = absurd (omega arith)
member_size_at (m ∷ ms) zero d h = omega (arith, members_size-positive (members_of (entries ms)))
member_size_at (m ∷ ms) (suc i) d h = let more : i < length ms = omega arith in omega (arith, member_size_at ms i d more)

pub ruleset sizes = (size_at, member_size_at)
