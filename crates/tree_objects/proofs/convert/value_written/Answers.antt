use Rattle.std.proofs.Common.{◌∙◌, arith}
use Rattle.tree_objects.proofs.Numerals.{value_step}
use Rattle.tree_objects.proofs.convert.value_written.Goals as goal

pub digits-preserved : goal.digits-preserved
digits-preserved c = (
  omega arith,
  value_step c.args.digits.now c.digits.digit-index c.digits.number c.saturating_add-number.result c.requires (omega arith) (omega arith)
      ∙ c.digits.invariant.1,
)
