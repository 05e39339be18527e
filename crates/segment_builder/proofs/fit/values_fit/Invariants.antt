use Rattle.std.proofs.Common.{take, FitsSigned, w64}
use Rattle.std.specs.List.{All}
use Rattle.segment_builder.proofs.fit.values_fit.Given as goal

abbrev pub invariant-values : goal.invariant-values
invariant-values l =
    All (FitsSigned w64) (take l.value-index l.values)
