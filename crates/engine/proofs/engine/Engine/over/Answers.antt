use Rattle.std.proofs.Common.{◌≤◌, ap, arith, subst, sym}
use Rattle.index_core.specs.Kept.{IndexState}
use Rattle.point_in_time.specs.Points.{KeptPoints}
use Rattle.engine.proofs.Known.{opened_blocks, opened_known, opened_ordinals, opened_points, opened_under}
use Rattle.engine.proofs.engine.Engine.over.Goals as goal

pub over-requires-clause-blocks : goal.over-requires-clause-blocks
over-requires-clause-blocks c = opened_blocks c.args.mapping c.args.store c.args.next c.args.view c.requires.fitting

pub invariant_of-result : goal.invariant_of-result
invariant_of-result c = record {
  limits = c.requires.limits;
  objects = ap (λ (index : IndexState). index.objects) c.in_ok-over.ensures;
  under = opened_under c.fitting_segments_are_blocks.ensures.same c.args.mapping c.args.store c.args.next c.args.limits.now.objects c.args.view c.in_ok-over.field-0 c.requires.fitting c.in_ok-over.ensures;
  points = opened_points c.args.mapping c.none.result c.none.ensures;
  opened = subst (λ (own : KeptPoints). own.opened ≤ 0) (sym c.none.ensures) (omega arith);
  limit = c.requires.limit;
  known = opened_known c.fitting_segments_are_blocks.ensures.same c.args.mapping c.args.store c.args.next c.args.limits.now.objects c.args.view c.in_ok-over.field-0 c.requires.fitting c.in_ok-over.ensures
      (c.known_segments_stay_known.ensures.opened c.args.view) c.requires.below;
  ordinals = opened_ordinals c.in_ok-over.field-0 c.none.result c.none-2.result c.none-2.ensures;
}
