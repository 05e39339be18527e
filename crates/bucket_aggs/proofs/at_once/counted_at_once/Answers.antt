use Rattle.std.proofs.Common.{◌≡◌, ◌+◌, ◌++◌, List, length, is_some, get_or, ap, ◌∙◌, arith}
use Rattle.std.proofs.lemmas.List.{length-map}
use Rattle.bucket_aggs.specs.Counts.{weight}
use Rattle.bucket_aggs.specs.declared.rows.CountRow.{CountRow}
use Rattle.bucket_aggs.proofs.Around.{ups_end, ups_step}
use Rattle.bucket_aggs.proofs.Cuts.{entry_long}
use Rattle.bucket_aggs.proofs.Viewed.{counting_end, counting_start, counting_step, flats_from, flats_step, long_view, own_flats, scores_at, there_at}
use Rattle.bucket_aggs.proofs.at_once.counted_at_once.Goals as goal

pub set-requires : goal.set-requires
set-requires c = omega (arith, c.entries-test.true, long_view c.args.entries.now c.args.objects.now c.requires.long)

pub add_at_once-requires-clause-long : goal.add_at_once-requires-clause-long
add_at_once-requires-clause-long c =
    let s = scores_at c.entries.at c.args.objects.now in
    ap length c.set.ensures ∙ length-map s is_some
    ∙ entry_long c.entries.at c.args.entries.now c.args.objects.now c.index-entries-at.result s c.segment.result.now c.requires.long c.entries-test.true c.index-entries-at.is
    (there_at c.entries.at c.args.entries.now c.args.objects.now c.requires.long c.entries-test.true) c.segment.ensures

pub entries-init : goal.entries-init
entries-init c = (
  counting_start c.args.kind c.args.field c.args.entries.now c.args.objects.now c.new-rows.result.items c.new-rows.ensures.items,
  λ v. omega (arith, ap (λ (l : List CountRow). weight v l) c.requires.none),
)

pub entries-preserved : goal.entries-preserved
entries-preserved c =
    let view = c.args.entries.now in
    let scores = c.args.objects.now in
    let e = c.index-entries-at.result in
    let s = scores_at c.entries.at c.args.objects.now in
    let there : s ≡ get_or scores c.entries.at s = there_at c.entries.at c.args.entries.now c.args.objects.now c.requires.long c.entries-test.true in
    let step : flats_from c.entries.at view scores ≡ own_flats c.segment.result.now c.set.result.now ++ flats_from (c.entries.at + 1) view scores =
    flats_step c.entries.at view scores e s c.segment.result.now c.set.result.now c.requires.long c.entries-test.true c.index-entries-at.is
    there c.segment.ensures c.set.ensures in (
      counting_step c.args.kind c.args.field c.entries.at view scores (own_flats c.segment.result.now c.set.result.now) c.entries.rows.items c.add_at_once.new.rows.items step c.entries.invariant.0 (c.in_ok-done.ensures.counts c.if-not-done.false) (λ keys. c.in_ok-done.ensures.keys keys c.if-not-done.false),
      λ v.
          omega (
            arith,
            c.entries.invariant.1 v,
            (c.in_ok-done.ensures.ups c.if-not-done.false).each v,
            ups_step c.args.to c.args.kind c.args.field v c.entries.at view scores e s c.segment.result.now c.set.result.now c.requires.long c.entries-test.true c.index-entries-at.is there c.segment.ensures c.set.ensures,
          ),
    )

pub returns-clause-counts : goal.returns-clause-counts
returns-clause-counts c =
    counting_end c.args.kind c.args.field c.entries.at c.args.entries.now c.args.objects.now c.entries.rows.items c.in_ok-merged.field-0.items (omega (arith, c.entries-test.false)) c.entries.invariant.0
    c.in_ok-merged.ensures.ascend c.in_ok-merged.ensures.counts (c.in_ok-merged.ensures.keys c.args.kind)

pub returns-clause-ups : goal.returns-clause-ups
returns-clause-ups c = λ v some.
    omega (arith, c.entries.invariant.1 v, ups_end c.args.to c.args.kind c.args.field v c.entries.at c.args.entries.now c.args.objects.now (omega (arith, c.entries-test.false)))
