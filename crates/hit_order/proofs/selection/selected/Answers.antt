use Rattle.std.proofs.Common.{filter, sym, subst}
use Rattle.std.specs.Prelude.{option_map}
use Rattle.std.specs.List.{range_with_len}
use Rattle.hit_order.specs.Indexed.{is_before, is_after, IsSelecting}
use Rattle.hit_order.proofs.Cutting.{passing-more}
use Rattle.hit_order.proofs.selection.selected.Goals as goal

pub rows-preserved : goal.rows-preserved
rows-preserved c =
    let t = c.args.table.now in
    let passes = is_after t (option_map (λ row. row.now) c.args.after) in
    subst (λ rows. IsSelecting (is_before t) c.args.most rows c.offer.new.kept.items c.offer.new.worst) (sym (passing-more passes c.rows.row))
    (c.in_ok-offer.ensures (filter passes (range_with_len 0 c.rows.row)) c.rows.invariant)
