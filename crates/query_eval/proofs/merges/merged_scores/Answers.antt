use Rattle.std.proofs.Common.{◌≡◌, length, ap, ◌∙◌}
use Rattle.block_join.specs.Merge.{paired, put_together}
use Rattle.query_eval.proofs.Sets.{paired_long}
use Rattle.query_eval.proofs.merges.merged_scores.Goals as goal

pub returns-in-Some-clause-long : goal.returns-in-Some-clause-long
returns-in-Some-clause-long c =
    let is : c.in-Some.made ≡ paired (put_together c.args.rule) c.args.one.now c.args.other.now = rw c.in-Some.is at c.in_ok-made.ensures in
    ap length is ∙ paired_long (put_together c.args.rule) c.args.one.now c.args.other.now c.requires
