use Rattle.std.proofs.Common.{◌≡◌, ◌-◌, length, count_by, sym, ap, ◌∙◌, arith}
use Rattle.block_bits.specs.Flags.{is_marked}
use Rattle.commit_store.proofs.Sizes.{dead_are}
use Rattle.commit_store.proofs.plan.dead_count.Goals as goal

pub returns : goal.returns
returns c = let dead = dead_are c.args.entry.now.live.roots in record { count = grind (arith, dead) }
