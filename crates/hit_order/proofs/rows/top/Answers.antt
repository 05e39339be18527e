use Rattle.std.proofs.Common.{ap, ◌∙◌}
use Rattle.std.specs.Prelude.{option_map}
use Rattle.hit_order.specs.Table.{keys_of_row, number_of_row, directions_of, table_of}
use Rattle.hit_order.proofs.Gathered.{page_found}
use Rattle.hit_order.proofs.rows.top.Goals as goal

pub returns-clause-page : goal.returns-clause-page
returns-clause-page c =
    let t = c.rows.inside.table in
    page_found t c.in_ok-gathered.field-0 c.args.rows (option_map (λ row. row.now) c.args.after) c.args.from c.args.size c.as_slice.result.now
    (c.rows_stand_in_order.ensures.order keys_of_row number_of_row (directions_of t.columns.items)) c.rows.view_is (c.as_slice.ensures.value ∙ c.in_ok-page.ensures)
    c.in_ok-gathered.ensures

pub returns-clause-directions : goal.returns-clause-directions
unfolding table_of
returns-clause-directions c = ap (λ v. v.directions) c.in_ok-gathered.ensures ∙ ap (λ v. v.directions) c.rows.view_is
