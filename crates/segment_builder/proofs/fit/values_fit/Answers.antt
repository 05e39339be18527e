use Rattle.std.proofs.Common.{subst, arith, FitsSigned, w64}
use Rattle.std.specs.List.{All}
use Rattle.std.proofs.lemmas.List.{take_all}
use Rattle.std.proofs.lemmas.List.Elements.{All-more}
use Rattle.segment_builder.proofs.fit.values_fit.Goals as goal

pub values-preserved : goal.values-preserved
values-preserved c = All-more (FitsSigned w64) c.args.values.now c.values.value-index _ c.values-test.true c.values.invariant c.value_fits.ensures

pub returns : goal.returns
returns c = subst (All (FitsSigned w64)) (take_all c.values.value-index c.args.values.now (omega arith)) c.values.invariant
