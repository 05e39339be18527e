use Rattle.std.proofs.Common.{◌≡◌, ◌-◌, ◌++◌, ◌∷◌, [], length, true, false, slice_get, arith, ap, sym, subst, ◌∙◌}
use Rattle.hit_order.specs.Indexed.{is_before, is_wanted, IsSelecting}
use Rattle.hit_order.proofs.Cutting.{Laws, laws_of, selecting_passed, selecting_kept, selecting_cut}
use Rattle.hit_order.proofs.selection.hold.Goals as goal

pub returns-then-not-is_wanted : goal.returns-then-not-is_wanted
returns-then-not-is_wanted c = λ all was.
    let t = c.args.table.now in
    let law = c.rows_stand_in_order.ensures in
    let unwanted : is_wanted (is_before t) c.args.row c.args.worst.now ≡ false = cc in
    selecting_passed (is_before t) (laws_of t law.order law.sorted law.only) c.args.most all c.args.kept.now.items c.args.row c.args.worst.now was unwanted

pub returns-then-len-most : goal.returns-then-len-most
returns-then-len-most c = λ all was.
    let t = c.args.table.now in
    let law = c.rows_stand_in_order.ensures in
    let wanted : is_wanted (is_before t) c.args.row c.args.worst.now ≡ true = cc in
    subst (λ rows. IsSelecting (is_before t) c.args.most (all ++ c.args.row ∷ []) rows c.args.worst.now) (sym c.in_ok-push.ensures.items)
    (selecting_kept (is_before t) (laws_of t law.order law.sorted law.only) c.args.most all c.args.kept.now.items c.args.row c.args.worst.now was wanted)

pub returns : goal.returns
returns c = λ all was.
    let t = c.args.table.now in
    let law = c.rows_stand_in_order.ensures in
    let laws : Laws (is_before t) = laws_of t law.order law.sorted law.only in
    let wanted : is_wanted (is_before t) c.args.row c.args.worst.now ≡ true = cc in
    let held = subst (λ rows. IsSelecting (is_before t) c.args.most (all ++ c.args.row ∷ []) rows c.args.worst.now) (sym c.in_ok-push.ensures.items)
    (selecting_kept (is_before t) laws c.args.most all c.args.kept.now.items c.args.row c.args.worst.now was wanted) in
    selecting_cut (is_before t) laws c.args.most (all ++ c.args.row ∷ []) c.push.new.self.items c.cut.new.rows.items c.args.worst.now c.copied.result held c.in_ok-cut.ensures
    (omega arith)
    (c.copied.ensures ∙ (c.last.ensures.value ∙ ap (λ xs. slice_get xs (length xs - 1)) c.deref.ensures.value))
