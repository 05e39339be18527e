use Rattle.std.proofs.Common.{◌<◌, ap, sym, arith, length, get_or, ◌∙◌}
use Rattle.hit_order.proofs.Found.{length_rows, row_found}
use Rattle.hit_order.proofs.rows.KeyRows.row.Goals as goal

pub returns : goal.returns
returns c =
    let t = c.self.inside.table in
    let d = c.in_ok-row.field-0 in
    let below : c.args.at < length t.places.items = omega (arith, length_rows t.columns.items t.places.items, ap (λ v. length v.rows) c.self.view_is, c.requires) in
    c.in_ok-row.ensures ∙ (sym (row_found t.columns.items t.places.items c.args.at d below) ∙ ap (λ v. get_or v.rows c.args.at d) c.self.view_is)
