use Rattle.std.proofs.Common.{◌∙◌, ap, length, arith}
use Rattle.block_join.specs.Kept.{score_of}
use Rattle.block_join.proofs.Shown.{length_shown}
use Rattle.block_join.proofs.Built.{finished, view_len}
use Rattle.block_join.proofs.builder.Builder.finish.Goals as goal

pub returns-clause-scores : goal.returns-clause-scores
returns-clause-scores c = c.of.ensures ∙ finished c.self.inside.set c.self.inside.scores c.self.inside.end c.self.inside.count c.args.self c.self.invariant c.self.view_is

pub returns-clause-long : goal.returns-clause-long
returns-clause-long c =
    omega (arith, ap length c.of.ensures, length_shown (score_of c.self.inside.scores) 0 c.self.inside.set, view_len c.self.inside.set c.self.inside.scores c.self.inside.end c.self.inside.count c.args.self c.self.invariant c.self.view_is)
