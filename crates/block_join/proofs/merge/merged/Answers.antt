use Rattle.std.proofs.Common.{◌≡◌, length, ap, ◌∙◌}
use Rattle.block_join.specs.Merge.{paired, put_together}
use Rattle.block_join.proofs.Merging.{length_paired}
use Rattle.block_join.proofs.merge.merged.Goals as goal

pub returns-in-Some-clause-long : goal.returns-in-Some-clause-long
returns-in-Some-clause-long c =
    let is : c.in-Some.made ≡ paired (put_together c.args.rule) c.args.one.now c.args.other.now = rw c.in-Some.is at c.in_ok-made.ensures in
    ap length is ∙ length_paired (put_together c.args.rule) c.args.one.now c.args.other.now c.requires
