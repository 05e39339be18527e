use Rattle.std.proofs.Common.{◌+◌, ◌-◌, ◌/◌, arith}
use Rattle.postings.specs.Postings.{present_positions}
use Rattle.leaf_search.proofs.Halving.{cut_down, cut_none, cut_up, positions_ascend}
use Rattle.leaf_search.proofs.conjunction.has_position.Goals as goal

pub halves-preserved-then-own-position-2 : goal.halves-preserved-then-own-position-2
halves-preserved-then-own-position-2 c =
    cut_up (present_positions c.args.cursor.now) c.args.position c.halves.first c.halves.end (c.halves.first + (c.halves.end - c.halves.first) / 2) c.position-own.result
    (positions_ascend c.args.cursor.now c.doc-document.ensures.postings) c.halves.invariant (omega (arith, c.halves-test.true)) c.position-own.ensures c.if-own-position-2.true

pub halves-preserved : goal.halves-preserved
halves-preserved c =
    cut_down (present_positions c.args.cursor.now) c.args.position c.halves.first c.halves.end (c.halves.first + (c.halves.end - c.halves.first) / 2) c.position-own.result
    (positions_ascend c.args.cursor.now c.doc-document.ensures.postings) c.halves.invariant (omega (arith, c.halves-test.true)) (omega (arith, c.halves-test.true)) c.position-own.ensures
    (omega (arith, c.if-own-position.false, c.if-own-position-2.false))

pub returns : goal.returns
returns c = cut_none (present_positions c.args.cursor.now) c.args.position c.halves.first c.halves.end c.halves.invariant (omega (arith, c.halves-test.false))
