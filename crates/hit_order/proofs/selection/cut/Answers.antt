use Rattle.std.proofs.Common.{rules}
use Rattle.std.proofs.lemmas.Fn.{always_returns_same}
use Rattle.hit_order.specs.Indexed.{is_before}
use Rattle.hit_order.proofs.Cutting.{Laws, laws_of, cut_is_first}
use Rattle.hit_order.proofs.selection.cut.Goals as goal

pub returns : goal.returns
unfolding is_before
returns c =
    let t = c.args.table.now in
    let law = c.rows_stand_in_order.ensures in
    let laws : Laws (is_before t) = laws_of t law.order law.sorted law.only in
    cut_is_first (is_before t) laws c.args.most c.args.rows.now.items c.sort_by.new.self.items c.truncate.new.self.items
    (c.in_ok-sort_by.ensures.sorted (is_before t) laws.order (always_returns_same _ _ _ (λ a r q k. search rules)))
    (c.in_ok-sort_by.ensures.stable (is_before t) laws.order (always_returns_same _ _ _ (λ a r q k. search rules)))
    c.truncate.ensures.items
