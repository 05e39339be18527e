use Rattle.std.proofs.Common.{◌≡◌, length, map, take}
use Rattle.query_eval.specs.Keyed.{Led}
use Rattle.query_eval.specs.Sides.{told_by}
use Rattle.query_eval.proofs.keyed.lead_all.Given as goal

abbrev pub invariant-entries : goal.invariant-entries
invariant-entries l =
    (map length l.sets.items ≡ map length l.fn.sets.items)
    × Led l.roots l.fn.sets.items (told_by l.mapping l.joins l.side 0 (take l.place l.entries) (take l.place l.fn.hits)) l.sets.items
