use Rattle.std.proofs.Common.{arith, ◌≡◌, ◌+◌, ◌-◌, length, true, is_lt, nat_cmp}
use Rattle.std.proofs.lemmas.Grind.{common_steps}
use Rattle.std.specs.Cmp.Lexicographic.{slice_cmp}
use Rattle.tree_json.proofs.Insertion.{comes_last_is}
use Rattle.tree_json.proofs.quick.comes_last.Goals as goal

pub returns : goal.returns
returns c last v =
    let some : length c.args.members.now - 1 + 1 ≡ length c.args.members.now = grind (arith, common_steps) in
    let less : is_lt (slice_cmp nat_cmp c.index-members-members.result.0 c.args.name.now) ≡ true = cc in
    comes_last_is c.args.members.now _ c.index-members-members.result c.args.name.now c.requires some c.index-members-members.is less v
