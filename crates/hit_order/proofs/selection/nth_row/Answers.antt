use Rattle.std.proofs.Common.{rules, arith}
use Rattle.std.proofs.lemmas.Fn.{always_returns_same}
use Rattle.hit_order.specs.Indexed.{is_before}
use Rattle.hit_order.proofs.Cutting.{Laws, laws_of}
use Rattle.hit_order.proofs.Paging.{few_before}
use Rattle.hit_order.proofs.selection.nth_row.Goals as goal

pub returns : goal.returns
unfolding is_before
returns c =
    let t = c.args.table.now in
    let law = c.rows_stand_in_order.ensures in
    let laws : Laws (is_before t) = laws_of t law.order law.sorted law.only in
    let moved = c.select_nth_unstable_by-row.ensures in
    let same = c.deref_mut.ensures.value in
    let first = c.in_ok-moved.ensures.items in
    let few = few_before (is_before t) laws.order _ c.args.rows.now _ _ (rw (same, first) at moved.permutation)
    (moved.partitioned (is_before t) laws.order (always_returns_same _ _ _ (λ a r q k. search rules))) in
    omega (arith, few, moved.front_len)
