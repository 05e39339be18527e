use Rattle.std.proofs.Common.{ℕ, ◌+◌, ◌*◌, ◌≤◌, length}
use Rattle.json.specs.Json.{items, members, value}
use Rattle.tree_json.proofs.SoFar.{ListSoFar, ObjectSoFar}
use Rattle.tree_json.specs.Names.{IsAscending}
use Rattle.tree_json.specs.View.{values, entries}
use Rattle.tree_json.proofs.quick.+quick.Given as goal

abbrev pub decreases-read_value : goal.decreases-read_value
decreases-read_value l = 2 * l.depth

abbrev pub decreases-read_list : goal.decreases-read_list
decreases-read_list l = 2 * l.depth + 1

abbrev pub decreases-read_object : goal.decreases-read_object
decreases-read_object l = 2 * l.depth + 1

abbrev pub invariant-read_list-elements : goal.invariant-read_list-elements
invariant-read_list-elements l =
    (n : ℕ) × (length l.reader ≤ n)
    × ListSoFar (items (value l.depth) (length l.initial.reader) l.initial.reader) (items (value l.depth) n l.reader) (values l.elements.items)
    × (length l.reader ≤ length l.initial.reader)

abbrev pub decreases-read_list-elements : goal.decreases-read_list-elements
decreases-read_list-elements l = length l.reader

abbrev pub invariant-read_object-members : goal.invariant-read_object-members
invariant-read_object-members l =
    (n : ℕ) × (length l.reader ≤ n)
    × ObjectSoFar (members (value l.depth) (length l.initial.reader) l.initial.reader) (members (value l.depth) n l.reader) (entries l.found.items)
    × (length l.reader ≤ length l.initial.reader)
    × IsAscending (entries l.found.items)

abbrev pub decreases-read_object-members : goal.decreases-read_object-members
decreases-read_object-members l = length l.reader
