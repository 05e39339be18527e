use Rattle.std.proofs.Common.{◌∙◌, rules, ap, Some}
use Rattle.std.specs.List.Sorted.{IsStrictlyIncreasing}
use Rattle.std.proofs.lemmas.List.Sorted.{answers_always}
use Rattle.segment_parts.specs.Fields.{fields}
use Rattle.segment_parts.proofs.Numbered.{found_row, missing_row, found_column, missing_column}
use Rattle.segment_parts.proofs.columns.ColumnList.get.Goals as goal

pub returns-in-Ok : goal.returns-in-Ok
returns-in-Ok g c =
    let by_number = c.in-Ok.ensures.position (λ column. column.0) (answers_always _ _ _ (λ f a r f' called. search rules)) in
    let columns = c.as_slice-columns.result.now in
    ap (λ column. Some column.1) c.index-columns-at.is
    ∙ found_column columns c.args.self.now c.in-Ok.at c.args.field c.index-columns-at.result (c.as_slice-columns.ensures.value ∙ c.self.view_is) (rw c.self.view_is at c.self.invariant.ascending) c.in-Ok.ensures.bound (found_row columns c.args.field c.in-Ok.at c.in-Ok.ensures.bound by_number)

pub returns-in-Err : goal.returns-in-Err
returns-in-Err g c =
    let by_number = c.in-Err.ensures.position (λ column. column.0) (answers_always _ _ _ (λ f a r f' called. search rules)) in
    let columns = c.as_slice-columns.result.now in
    let ascend : IsStrictlyIncreasing (fields columns) = rw c.as_slice-columns.ensures.value c.self.invariant.ascending in
    missing_column columns c.args.self.now c.args.field (c.as_slice-columns.ensures.value ∙ c.self.view_is) (missing_row columns c.args.field c.in-Err.field-0 ascend by_number)
