-- An element is smaller than its list and a member than its object, so that the walk down a body ends.
use Rattle.std.proofs.Common.{ℕ, zero, suc, ◌<◌, List as Seq, [], ◌∷◌, length, get_or, arith}
use Rattle.tree_json.specs.Value.{Elements, no_elements, element, Members, no_members, member, members_of, elements_of, value_size, elements_size, members_size}
use Rattle.tree_json.specs.View.{view, values, entries}
use Rattle.tree_json.specs.declared.value.Json.{Json}

elements_positive : (ds : Elements) → 0 < elements_size ds
elements_positive no_elements = omega arith
elements_positive (element d ds) = omega (arith, elements_positive ds)

members_positive : (ms : Members) → 0 < members_size ms
members_positive no_members = omega arith
members_positive (member k d ms) = omega (arith, members_positive ms)

pub element_falls : (js : Seq Json) (i : ℕ) (d : Json) → i < length js → value_size (view (get_or js i d)) < elements_size (elements_of (values js))
element_falls [] i d h = absurd (omega arith)
element_falls (j ∷ js) zero d h = omega (arith, elements_positive (elements_of (values js)))
element_falls (j ∷ js) (suc i) d h = let more : i < length js = omega arith in omega (arith, element_falls js i d more)

pub member_falls : (ms : Seq (Seq ℕ × Json)) (i : ℕ) (d : Seq ℕ × Json) → i < length ms → value_size (view (get_or ms i d).1) < members_size (members_of (entries ms))
member_falls [] i d h = absurd (omega arith)
member_falls (m ∷ ms) zero d h = omega (arith, members_positive (members_of (entries ms)))
member_falls (m ∷ ms) (suc i) d h = let more : i < length ms = omega arith in omega (arith, member_falls ms i d more)

pub ruleset sizes = (element_falls, member_falls)
