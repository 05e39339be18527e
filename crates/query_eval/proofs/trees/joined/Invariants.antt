use Rattle.std.proofs.Common.{◌≡◌, take}
use Rattle.query_eval.specs.Found.{AreLong}
use Rattle.query_eval.specs.Sides.{given_by, told_by}
use Rattle.query_eval.proofs.trees.joined.Given as goal

abbrev pub invariant-entries : goal.invariant-entries
invariant-entries l =
    AreLong (take l.place l.entries) l.made.items
    × (l.made.items ≡ given_by l.mapping l.joins l.to l.fn.answer (told_by l.mapping l.joins l.fn.from 0 l.entries l.hits) 0 (take l.place l.entries))
    × (l.keyed ≡ l.initial.keyed)
