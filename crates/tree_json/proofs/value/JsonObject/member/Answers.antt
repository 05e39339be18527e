use Rattle.std.proofs.Common.{arith, ◌≡◌, ◌≤◌, ◌∙◌, length, Less, Greater, nat_cmp}
use Rattle.std.proofs.lemmas.Grind.{common_steps}
use Rattle.std.specs.Cmp.Lexicographic.{slice_cmp}
use Rattle.tree_json.proofs.Halves.{after_less, before_greater}
use Rattle.tree_json.proofs.value.JsonObject.member.Goals as goal

pub halves-preserved-in-Less : goal.halves-preserved-in-Less
halves-preserved-in-Less c =
    let less : slice_cmp nat_cmp c.index-members-middle.result.0 c.args.name.now ≡ Less = cc in
    let rest = after_less c.halves.members.now _ c.index-members-middle.result c.args.name.now c.halves.invariant.1 (omega arith) c.index-members-middle.is less in
    let fewer : length c.split_at.result.1.now ≤ length c.as_slice-members.result.now = omega arith in
    (fewer, rw c.split_at.ensures.back rest.0, rw c.split_at.ensures.back (rest.1 ∙ c.halves.invariant.2))

pub halves-preserved : goal.halves-preserved
halves-preserved c =
    let greater : slice_cmp nat_cmp c.index-members-middle.result.0 c.args.name.now ≡ Greater = cc in
    let rest = before_greater c.halves.members.now _ c.index-members-middle.result c.args.name.now c.halves.invariant.1 (grind (arith, common_steps)) c.index-members-middle.is greater in
    let fewer : length c.split_at-in-Greater.result.0.now ≤ length c.as_slice-members.result.now = omega arith in
    (fewer, rw c.split_at-in-Greater.ensures.front rest.0, rw c.split_at-in-Greater.ensures.front (rest.1 ∙ c.halves.invariant.2))
