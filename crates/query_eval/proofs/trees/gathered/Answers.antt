use Rattle.std.proofs.Common.{◌<◌, ◌++◌, Bool, List, ℕ, get_or, length, take, sym, ap, subst, ◌∙◌, arith}
use Rattle.segment_parts.specs.declared.columns.Columns.{Columns}
use Rattle.query_eval.specs.Sides.{AreKeyScores, key_count, keys_at, of_roots, told, told_by}
use Rattle.query_eval.proofs.Entries.{Scores, long_count, own_long}
use Rattle.query_eval.proofs.Telling.{tell_keys, tell_relations, told_step, told_whole}
use Rattle.query_eval.proofs.trees.gathered.Goals as goal

pub entries-init : goal.entries-init
entries-init c = (c.in_ok-keyed.ensures.long ∙ c.count.ensures, c.in_ok-keyed.ensures.scores)

pub bounds-hits-place : goal.bounds-hits-place
bounds-hits-place c = omega (arith, c.entries-test.true, long_count c.args.entries.now c.args.hits.now c.requires.long, ap length c.as_slice-hits.ensures)

pub tell-requires : goal.tell-requires
tell-requires c =
    let below : c.entries.place < length c.args.entries.now = omega (arith, c.entries-test.true) in
    record {
      documents =
          own_long c.args.entries.now c.entries.place c.index-entries-place.result c.args.hits.now c.index-hits-place.result c.requires.long below c.index-entries-place.is
          (c.index-hits-place.is ∙ ap (λ (l : List Scores). get_or l c.entries.place c.index-hits-place.result) c.as_slice-hits.ensures)
          ∙ ap (λ (x : Columns). x.documents) (sym c.segment-segment.ensures)
          ∙ sym c.in_ok-roots.ensures.long;
      roots = c.in_ok-roots.ensures.set;
      keys =
          tell_keys c.args.mapping.now c.args.joins.now c.args.side c.args.entries.now c.entries.place c.index-entries-place.result c.segment-segment.result.now below c.index-entries-place.is c.segment-segment.ensures
          c.requires.ordinals (key_count c.entries.keyed) c.entries.invariant.0;
      relations =
          tell_relations c.args.mapping.now c.args.joins.now c.args.side c.args.entries.now c.entries.place c.index-entries-place.result c.segment-segment.result.now below c.index-entries-place.is c.segment-segment.ensures
          c.requires.ordinals;
    }

pub entries-preserved : goal.entries-preserved
entries-preserved c =
    let below : c.entries.place < length c.args.entries.now = omega (arith, c.entries-test.true) in
    let before = told_by c.args.mapping.now c.args.joins.now c.args.side 0 (take c.entries.place c.args.entries.now) (take c.entries.place c.args.hits.now) in
    let keyed = c.tell.new.keyed in (
      c.in_ok-tell.ensures.long ∙ c.entries.invariant.0,
      subst (λ (pairs : List (ℕ × ℕ)). AreKeyScores c.args.answer pairs keyed)
          (ap (λ (flags : List Bool). before ++ told (keys_at c.args.mapping.now c.args.joins.now c.args.side c.segment-segment.result.now c.entries.place) (of_roots flags c.index-hits-place.result)) c.in_ok-roots.ensures.set
          ∙ told_step c.args.mapping.now c.args.joins.now c.args.side c.args.entries.now c.entries.place c.index-entries-place.result c.segment-segment.result.now below c.index-entries-place.is c.segment-segment.ensures
          c.args.hits.now c.index-hits-place.result (long_count c.args.entries.now c.args.hits.now c.requires.long)
          (c.index-hits-place.is ∙ ap (λ (l : List Scores). get_or l c.entries.place c.index-hits-place.result) c.as_slice-hits.ensures))
          (c.in_ok-tell.ensures.scores c.args.answer before c.entries.invariant.1),
    )

pub returns-clause-scores : goal.returns-clause-scores
returns-clause-scores c =
    subst (λ (pairs : List (ℕ × ℕ)). AreKeyScores c.args.answer pairs c.entries.keyed)
    (told_whole c.args.mapping.now c.args.joins.now c.args.side c.args.entries.now c.args.hits.now c.entries.place (long_count c.args.entries.now c.args.hits.now c.requires.long) (omega (arith, c.entries-test.false)))
    c.entries.invariant.1
