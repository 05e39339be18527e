use Rattle.std.proofs.Common.{◌∙◌}
use Rattle.segment_parts.proofs.Numbered.{found_column, missing_column}
use Rattle.segment_parts.proofs.by_field.ByField.get.Goals as goal

pub returns-in-Some : goal.returns-in-Some
returns-in-Some g c =
    found_column c.as_slice-columns.result.now c.args.self.now c.in-Some.at c.args.field c.index-columns-at.result (c.as_slice-columns.ensures.value ∙ c.self.view_is) (rw c.self.view_is at c.self.invariant) c.in-Some.ensures.within c.in-Some.ensures.found

pub returns-in-None : goal.returns-in-None
returns-in-None g c = missing_column c.as_slice-columns.result.now c.args.self.now c.args.field (c.as_slice-columns.ensures.value ∙ c.self.view_is) c.in-None.ensures.missing
