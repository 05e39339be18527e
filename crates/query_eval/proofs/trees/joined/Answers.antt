use Rattle.std.proofs.Common.{◌<◌, length, sym, ap, subst, ◌∙◌, arith}
use Rattle.segment_parts.specs.declared.columns.Columns.{Columns}
use Rattle.query_eval.specs.Sides.{AreKeyScores, key_count, told_by}
use Rattle.query_eval.proofs.Entries.{all_long, entry_step}
use Rattle.query_eval.proofs.Telling.{tell_keys, tell_relations, given_step, given_whole}
use Rattle.query_eval.proofs.trees.joined.Goals as goal

pub given-requires : goal.given-requires
given-requires c =
    let below : c.entries.place < length c.args.entries.now = omega (arith, c.entries-test.true) in
    record {
      keys =
          tell_keys c.args.mapping.now c.args.joins.now c.args.to c.args.entries.now c.entries.place c.index-entries-place.result c.segment-segment.result.now below c.index-entries-place.is c.segment-segment.ensures c.requires.ordinals
          _ (ap key_count c.entries.invariant.2 ∙ c.in_ok-keyed.ensures.long);
      relations =
          tell_relations c.args.mapping.now c.args.joins.now c.args.to c.args.entries.now c.entries.place c.index-entries-place.result c.segment-segment.result.now below c.index-entries-place.is c.segment-segment.ensures
          c.requires.ordinals;
    }

pub entries-preserved : goal.entries-preserved
entries-preserved c =
    let below : c.entries.place < length c.args.entries.now = omega (arith, c.entries-test.true) in
    let pairs = told_by c.args.mapping.now c.args.joins.now c.args.from 0 c.args.entries.now c.args.hits.now in (
      entry_step c.args.entries.now c.entries.place c.index-entries-place.result c.entries.made.items c.push.new.self.items c.in_ok-scores.scores c.index-entries-place.is below c.entries.invariant.0
          (c.in_ok-scores.ensures.long ∙ ap (λ (x : Columns). x.documents) c.segment-segment.ensures) c.in_ok-push.ensures.items,
      given_step c.args.mapping.now c.args.joins.now c.args.to c.args.entries.now c.entries.place c.index-entries-place.result c.segment-segment.result.now below c.index-entries-place.is c.segment-segment.ensures
          c.args.answer pairs c.entries.made.items c.push.new.self.items c.in_ok-scores.scores c.entries.invariant.1
          (c.in_ok-scores.ensures.scores c.args.answer pairs (subst (AreKeyScores c.args.answer pairs) (sym c.entries.invariant.2) c.in_ok-keyed.ensures.scores))
          c.in_ok-push.ensures.items,
      c.entries.invariant.2,
    )

pub returns-clause-long : goal.returns-clause-long
returns-clause-long c = all_long c.args.entries.now c.entries.place c.entries.made.items c.of.result c.entries.invariant.0 (omega (arith, c.entries-test.false)) c.of.ensures

pub returns-clause-given : goal.returns-clause-given
returns-clause-given c =
    c.of.ensures ∙ c.entries.invariant.1
    ∙ given_whole c.args.mapping.now c.args.joins.now c.args.to c.args.answer (told_by c.args.mapping.now c.args.joins.now c.args.from 0 c.args.entries.now c.args.hits.now) c.args.entries.now c.entries.place
    (omega (arith, c.entries-test.false))
