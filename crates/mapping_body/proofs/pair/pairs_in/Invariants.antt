use Rattle.std.proofs.Common.{◌≡◌, ◌++◌, map, drop}
use Rattle.tree_json.specs.Value.{members_of}
use Rattle.tree_json.specs.View.{entries}
use Rattle.mapping_body.specs.Pairs.{pairs_in}
use Rattle.mapping_body.specs.Kept.{pair_of}
use Rattle.mapping_body.proofs.pair.pairs_in.Given as goal

abbrev pub invariant-members : goal.invariant-members
invariant-members l =
    map pair_of l.found.items ++ pairs_in (members_of (entries (drop l.name-index l.members)))
    ≡ map pair_of l.fn.found.items ++ pairs_in (members_of (entries l.members))
