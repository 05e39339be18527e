use Rattle.std.proofs.Common.{subst, arith, FitsSigned, w64}
use Rattle.std.specs.List.{All}
use Rattle.std.proofs.lemmas.List.{take_all}
use Rattle.std.proofs.lemmas.List.Elements.{All-more}
use Rattle.segment_builder.proofs.fit.numbers_fit.Goals as goal

pub fields-preserved : goal.fields-preserved
fields-preserved c =
    All-more (λ field. All (FitsSigned w64) field.values.items) c.args.fields.now c.fields.field-index c.field-item.result c.fields-test.true c.fields.invariant
    (subst (λ field. All (FitsSigned w64) field.values.items) c.field-item.is (rw c.as_slice.ensures at c.values_fit.ensures))

pub returns : goal.returns
returns c = subst (All (λ field. All (FitsSigned w64) field.values.items)) (take_all c.fields.field-index c.args.fields.now (omega arith)) c.fields.invariant
