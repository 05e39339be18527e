use Rattle.std.proofs.Common.{◌+◌, ◌-◌, ◌/◌, Equal, sym, arith}
use Rattle.std.proofs.lemmas.Cmp.{nat_cmp_total, ranked}
use Rattle.segment.proofs.Halves.{halved_above, halved_below, halved_found, halved_all}
use Rattle.segment.proofs.agree_terms.has_ordinal.Goals as goal

pub halves-preserved-in-Less : goal.halves-preserved-in-Less
halves-preserved-in-Less c =
    halved_above nat_cmp_total c.args.values.now c.args.ordinal c.value.result c.halves.low (c.halves.low + (c.halves.high - c.halves.low) / 2) c.halves.high c.requires c.halves.invariant c.value.ensures (sym c.in-Less.ensures)

pub returns-in-Equal : goal.returns-in-Equal
returns-in-Equal c = halved_found c.args.values.now c.args.ordinal c.value.result (c.halves.low + (c.halves.high - c.halves.low) / 2) c.value.ensures (ranked c.value.result c.args.ordinal Equal c.in-Equal.ensures)

pub halves-preserved : goal.halves-preserved
halves-preserved c =
    halved_below nat_cmp_total c.args.values.now c.args.ordinal c.value.result c.halves.low (c.halves.low + (c.halves.high - c.halves.low) / 2) c.halves.high c.requires c.halves.invariant c.value.ensures (sym c.in-Greater.ensures)

pub returns : goal.returns
returns c = halved_all c.args.values.now c.args.ordinal c.halves.low c.halves.high c.halves.invariant (omega (arith, c.halves-test.false))
