use Rattle.std.proofs.Common.{◌≡◌, ◌+◌, ◌-◌, ◌/◌, ap, sym, ◌∙◌, arith}
use Rattle.std.proofs.lemmas.Bool.{ltb-true, ltb-false}
use Rattle.std.specs.Ordering.{ordering_index, nat_cmp}
use Rattle.std.specs.Cmp.Lexicographic.{slice_cmp}
use Rattle.segment.specs.Ids.{bound, rank}
use Rattle.segment.proofs.ById.{all_after, all_before, one_there}
use Rattle.segment.proofs.by_id.roots_up_to.Goals as goal

pub id-requires : goal.id-requires
id-requires c =
    one_there c.args.sources.now c.args.order.now (c.halves.low + (c.halves.high - c.halves.low) / 2) c.requires (omega (arith, c.halves-test.true, c.halves.invariant.within))

pub halves-preserved-then-comes_before : goal.halves-preserved-then-comes_before
halves-preserved-then-comes_before c =
    let middle = c.halves.low + (c.halves.high - c.halves.low) / 2 in
    let index : ordering_index c.cmp-compared.result ≡ rank c.args.sources.now c.args.order.now c.args.id.now middle =
    ap ordering_index (c.cmp-compared.ensures ∙ ap (λ id. slice_cmp nat_cmp id c.args.id.now) c.id.ensures) in
    let less = ltb-true (ordering_index c.cmp-compared.result) (bound c.args.through) (sym c.comes_before.ensures ∙ c.if-comes_before.true) in
    record {
      ends = omega (arith, c.halves-test.true);
      within = c.halves.invariant.within;
      before = all_before c.args.sources.now c.args.order.now c.args.id.now c.requires middle (bound c.args.through) (omega (arith, c.halves-test.true, c.halves.invariant.within)) (omega (arith, index, less));
      after = c.halves.invariant.after;
    }

pub halves-preserved : goal.halves-preserved
halves-preserved c =
    let middle = c.halves.low + (c.halves.high - c.halves.low) / 2 in
    let index : ordering_index c.cmp-compared.result ≡ rank c.args.sources.now c.args.order.now c.args.id.now middle =
    ap ordering_index (c.cmp-compared.ensures ∙ ap (λ id. slice_cmp nat_cmp id c.args.id.now) c.id.ensures) in
    let most = ltb-false (ordering_index c.cmp-compared.result) (bound c.args.through) (sym c.comes_before.ensures ∙ c.if-comes_before.false) in
    record {
      ends = omega (arith, c.halves-test.true);
      within = omega (arith, c.halves-test.true, c.halves.invariant.within);
      before = c.halves.invariant.before;
      after = all_after c.args.sources.now c.args.order.now c.args.id.now c.requires middle (bound c.args.through) (omega (arith, index, most));
    }
