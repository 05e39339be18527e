use Rattle.std.proofs.Common.{take, FitsSigned, w64}
use Rattle.std.specs.List.{All}
use Rattle.segment_builder.proofs.fit.numbers_fit.Given as goal

abbrev pub invariant-fields : goal.invariant-fields
invariant-fields l =
    All (λ field. All (FitsSigned w64) field.values.items) (take l.field-index l.fields)
