use Rattle.std.proofs.Common.{◌<◌, ap, sym, arith, length, get_or, ◌∙◌}
use Rattle.hit_order.specs.Table.{place_of_row}
use Rattle.hit_order.proofs.Found.{length_rows, row_found}
use Rattle.hit_order.proofs.rows.KeyRows.place.Goals as goal

pub returns : goal.returns
returns c = λ none.
    let t = c.self.inside.table in
    let below : c.args.at < length t.places.items = omega (arith, length_rows t.columns.items t.places.items, ap (λ v. length v.rows) c.self.view_is, c.requires) in
    c.place.ensures ∙ ap place_of_row (sym (row_found t.columns.items t.places.items c.args.at none below) ∙ ap (λ v. get_or v.rows c.args.at none) c.self.view_is)
