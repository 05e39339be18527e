use Rattle.std.proofs.Common.{◌≡◌, ◌-◌, drop, length, min, arith, ap, ◌∙◌}
use Rattle.std.proofs.lemmas.List.{drop_min}
use Rattle.hit_order.specs.Indexed.{is_before}
use Rattle.hit_order.proofs.Cutting.{Laws, laws_of}
use Rattle.hit_order.proofs.Paging.{none_there, page_is}
use Rattle.hit_order.proofs.selection.page.Goals as goal

pub returns-then-rows-from : goal.returns-then-rows-from
returns-then-rows-from c = c.new.ensures.items ∙ none_there (is_before c.args.table.now) c.args.from c.args.most c.args.rows.now (omega (arith, c.if-rows-from.true))

pub returns : goal.returns
returns c =
    let t = c.args.table.now in
    let law = c.rows_stand_in_order.ensures in
    let laws : Laws (is_before t) = laws_of t law.order law.sorted law.only in
    let kept = c.cut.new.rows.items in
    let skipped = length c.args.rows.now - c.len.result in
    let count : c.min-front.result ≡ min (c.args.from - skipped) (length kept) = omega (arith, c.min-front.ensures, c.len-2.ensures) in
    c.in_ok-split_off.ensures.tail
    ∙ (ap (λ n. drop n kept) count ∙ (drop_min (c.args.from - skipped) kept ∙ (ap (drop (c.args.from - skipped)) c.in_ok-cut.ensures
    ∙ page_is (is_before t) laws c.args.from c.args.most c.in_ok-first.first skipped c.args.rows.now c.in_ok-rest.rest.items c.in_ok-rest.ensures.rest
    (omega (arith, c.in_ok-rest.ensures.parts, c.len.ensures)) (omega (arith, c.in_ok-first.ensures, c.in_ok-rest.ensures.parts, c.len.ensures)) c.requires)))
