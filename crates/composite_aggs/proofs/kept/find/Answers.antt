use Rattle.std.proofs.Common.{◌+◌, ◌-◌, ◌/◌, map, arith}
use Rattle.std.specs.declared.cmp.Ordering.TheVariants.{Less, Equal, Greater}
use Rattle.composite_aggs.proofs.Steps.{found_at, higher_from, lower_below_same, lower_upto}
use Rattle.composite_aggs.proofs.kept.find.Goals as goal

pub halves-preserved-in-Less : goal.halves-preserved-in-Less
halves-preserved-in-Less c =
    let key = map (λ v. v.now) c.args.key.now in
    let middle = c.halves.low + (c.halves.high - c.halves.low) / 2 in
    let at = found_at Less c.args.kept.now middle c.index-kept-middle.result c.as_slice.result.now key (omega arith) c.as_slice.ensures c.in-Less.ensures in
    (omega arith, c.halves.invariant.1, lower_upto key c.args.kept.now middle c.requires (omega arith) at, c.halves.invariant.3)

pub returns-in-Equal-clause-found : goal.returns-in-Equal-clause-found
returns-in-Equal-clause-found c =
    let key = map (λ v. v.now) c.args.key.now in
    let middle = c.halves.low + (c.halves.high - c.halves.low) / 2 in
    (omega arith, found_at Equal c.args.kept.now middle c.index-kept-middle.result c.as_slice.result.now key (omega arith) c.as_slice.ensures c.in-Equal.ensures)

pub returns-in-Equal-clause-below_found : goal.returns-in-Equal-clause-below_found
returns-in-Equal-clause-below_found c =
    let key = map (λ v. v.now) c.args.key.now in
    let middle = c.halves.low + (c.halves.high - c.halves.low) / 2 in
    let at = found_at Equal c.args.kept.now middle c.index-kept-middle.result c.as_slice.result.now key (omega arith) c.as_slice.ensures c.in-Equal.ensures in
    lower_below_same key c.args.kept.now middle c.requires (omega arith) at

pub halves-preserved : goal.halves-preserved
halves-preserved c =
    let key = map (λ v. v.now) c.args.key.now in
    let middle = c.halves.low + (c.halves.high - c.halves.low) / 2 in
    let at = found_at Greater c.args.kept.now middle c.index-kept-middle.result c.as_slice.result.now key (omega arith) c.as_slice.ensures c.in-Greater.ensures in
    (omega arith, omega arith, c.halves.invariant.2, higher_from key c.args.kept.now middle c.requires (omega arith) at)
