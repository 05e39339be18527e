use Rattle.std.proofs.Common.{◌<◌, ◌++◌, Bool, List, ℕ, get_or, length, take, refl, sym, ap, subst, ◌∙◌, arith}
use Rattle.std.specs.List.{All}
use Rattle.segment_parts.specs.declared.columns.Columns.{Columns}
use Rattle.query_eval.specs.Keyed.{IsWithin, Led}
use Rattle.query_eval.specs.Sides.{keys_at, of_roots, told, told_by}
use Rattle.query_eval.proofs.Entries.{Scores, long_count, own_long}
use Rattle.query_eval.proofs.Leading.{led_more, led_none}
use Rattle.query_eval.proofs.Telling.{tell_relations, told_step, told_whole}
use Rattle.query_eval.proofs.keyed.lead_all.Goals as goal

pub entries-init : goal.entries-init
entries-init c = (refl, led_none c.args.roots.now c.args.sets.now.items)

pub bounds-hits-place : goal.bounds-hits-place
bounds-hits-place c = omega (arith, c.entries-test.true, long_count c.args.entries.now c.args.hits.now c.requires.long, ap length c.as_slice-hits.ensures)

pub lead-requires : goal.lead-requires
lead-requires c =
    let below : c.entries.place < length c.args.entries.now = omega (arith, c.entries-test.true) in
    record {
      documents =
          own_long c.args.entries.now c.entries.place c.index-entries-place.result c.args.hits.now c.index-hits-place.result c.requires.long below c.index-entries-place.is
          (c.index-hits-place.is ∙ ap (λ (l : List Scores). get_or l c.entries.place c.index-hits-place.result) c.as_slice-hits.ensures)
          ∙ ap (λ (x : Columns). x.documents) (sym c.segment-segment.ensures)
          ∙ sym c.in_ok-own.ensures.long;
      own = c.in_ok-own.ensures.set;
      relations =
          tell_relations c.args.mapping.now c.args.joins.now c.args.side c.args.entries.now c.entries.place c.index-entries-place.result c.segment-segment.result.now below c.index-entries-place.is c.segment-segment.ensures
          c.requires.ordinals;
      sorted = c.requires.sorted;
      within = subst (λ (lengths : List ℕ). All (IsWithin lengths) c.args.roots.now) (sym c.entries.invariant.0) c.requires.within;
    }

pub entries-preserved : goal.entries-preserved
entries-preserved c =
    let below : c.entries.place < length c.args.entries.now = omega (arith, c.entries-test.true) in
    let first = c.args.sets.now.items in
    let before = told_by c.args.mapping.now c.args.joins.now c.args.side 0 (take c.entries.place c.args.entries.now) (take c.entries.place c.args.hits.now) in
    let own = told (keys_at c.args.mapping.now c.args.joins.now c.args.side c.segment-segment.result.now c.entries.place) (of_roots c.in_ok-own.own c.index-hits-place.result) in
    let new = c.lead.new.sets.items in (
      c.lead.ensures.long ∙ c.entries.invariant.0,
      subst (λ (pairs : List (ℕ × ℕ)). Led c.args.roots.now first pairs new)
          (ap (λ (flags : List Bool). before ++ told (keys_at c.args.mapping.now c.args.joins.now c.args.side c.segment-segment.result.now c.entries.place) (of_roots flags c.index-hits-place.result)) c.in_ok-own.ensures.set
          ∙ told_step c.args.mapping.now c.args.joins.now c.args.side c.args.entries.now c.entries.place c.index-entries-place.result c.segment-segment.result.now below c.index-entries-place.is c.segment-segment.ensures
          c.args.hits.now c.index-hits-place.result (long_count c.args.entries.now c.args.hits.now c.requires.long)
          (c.index-hits-place.is ∙ ap (λ (l : List Scores). get_or l c.entries.place c.index-hits-place.result) c.as_slice-hits.ensures))
          (led_more c.args.roots.now first c.entries.sets.items new before own c.entries.invariant.1 c.lead.ensures.led),
    )

pub returns-clause-led : goal.returns-clause-led
returns-clause-led c =
    subst (λ (pairs : List (ℕ × ℕ)). Led c.args.roots.now c.args.sets.now.items pairs c.entries.sets.items)
    (told_whole c.args.mapping.now c.args.joins.now c.args.side c.args.entries.now c.args.hits.now c.entries.place (long_count c.args.entries.now c.args.hits.now c.requires.long) (omega (arith, c.entries-test.false)))
    c.entries.invariant.1
