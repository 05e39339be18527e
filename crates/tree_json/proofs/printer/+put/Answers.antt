use Rattle.std.proofs.Common.{arith}
use Rattle.std.proofs.lemmas.Grind.{common_steps}
use Rattle.tree_json.proofs.Sizes.{sizes}
use Rattle.tree_json.proofs.printer.+put.Goals as goal

pub put_elements-put-requires : goal.put_elements-put-requires
put_elements-put-requires t c = (grind (arith, common_steps, sizes), grind (arith, common_steps))

pub put_members-put_member-requires : goal.put_members-put_member-requires
put_members-put_member-requires t c = (grind (arith, common_steps, sizes), grind (arith, common_steps))
