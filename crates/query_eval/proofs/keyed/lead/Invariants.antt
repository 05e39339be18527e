use Rattle.std.proofs.Common.{◌≡◌, ◌-◌, ◌≤◌, length, map, take}
use Rattle.query_eval.specs.Keyed.{Led}
use Rattle.query_eval.specs.Sides.{at_roots, keys_at, told}
use Rattle.query_eval.proofs.keyed.lead.Given as goal

abbrev pub invariant-documents : goal.invariant-documents
invariant-documents l =
    (l.left.scores ≡ l.hits)
    × (l.left.from ≤ length l.hits)
    × (map length l.sets.items ≡ map length l.fn.sets.items)
    × Led l.roots l.fn.sets.items (told (take l.left.from (at_roots l.own (keys_at l.mapping l.joins l.side l.segment l.place))) (take l.left.from l.hits)) l.sets.items

abbrev pub decreases-documents : goal.decreases-documents
decreases-documents l = length l.hits - l.left.from
