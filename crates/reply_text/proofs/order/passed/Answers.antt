use Rattle.std.proofs.Common.{Some, ap, arith, sym, ◌∙◌}
use Rattle.reply_text.specs.Next.{is_above}
use Rattle.reply_text.proofs.Next.{passed_more}
use Rattle.reply_text.proofs.order.passed.Goals as goal

pub names-preserved : goal.names-preserved
names-preserved g c = λ was.
    let last = c.args.last.now in
    let item = c.index-list-at.result in
    passed_more g.T.Named.entry (Some last) c.args.list.now c.names.at item item (c.names.invariant was) (omega (arith, c.names-test.true)) c.index-list-at.is
    (ap (is_above (Some last)) (sym c.name.ensures) ∙ sym c.is_above.ensures ∙ c.if-is_above.false)
