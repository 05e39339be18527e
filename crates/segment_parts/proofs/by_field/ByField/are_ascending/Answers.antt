use Rattle.std.proofs.Common.{◌≡◌, ◌-◌, ◌+◌, ◌<◌, length, get_or, ap, arith}
use Rattle.std.proofs.lemmas.Bool.{false≢true}
use Rattle.segment_parts.specs.Fields.{fields}
use Rattle.segment_parts.proofs.Loops.{fields_at, length-fields, rising_more}
use Rattle.segment_parts.proofs.by_field.ByField.are_ascending.Goals as goal

pub returns-then-columns-at : goal.returns-then-columns-at
returns-then-columns-at g c =
    let columns = c.args.columns.now in
    let at = c.columns.at in
    let inside : at < length columns = c.columns-test.true in
    let last = fields_at columns at c.index-columns-at.result inside in
    let first = fields_at columns (at - 1) c.index-columns-at-in-columns.result (omega (arith, inside)) in (
      λ no. absurd (false≢true no),
      λ ascend.
          let rises : get_or (fields columns) (at - 1) 0 < get_or (fields columns) (at - 1 + 1) 0 = ascend (at - 1) (omega (arith, length-fields columns, inside, c.columns.auto.at)) in
          let same : get_or (fields columns) (at - 1 + 1) 0 ≡ get_or (fields columns) at 0 = ap (λ i. get_or (fields columns) i 0) (omega (arith, c.columns.auto.at)) in
          absurd (omega (arith, rises, same, last, first, c.if-columns-at.true)),
    )

pub columns-preserved : goal.columns-preserved
columns-preserved g c =
    let columns = c.args.columns.now in
    let at = c.columns.at in
    let inside : at < length columns = c.columns-test.true in
    let last = fields_at columns at c.index-columns-at.result inside in
    let first = fields_at columns (at - 1) c.index-columns-at-in-columns.result (omega (arith, inside)) in
    rising_more (fields columns) at (omega (arith, c.columns.auto.at)) c.columns.invariant (omega (arith, last, first, c.if-columns-at.false))
