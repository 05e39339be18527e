use Rattle.std.proofs.Common.{◌≡◌, ◌+◌, ◌++◌, length, is_some, get_or, sym, ap, subst, ◌∙◌, arith}
use Rattle.std.proofs.lemmas.List.{length-map}
use Rattle.bucket_aggs.specs.Counts.{AreKnown}
use Rattle.bucket_aggs.proofs.Cuts.{entry_long, known_more}
use Rattle.bucket_aggs.proofs.Viewed.{counting_end, counting_start, counting_step, flats_from, flats_step, long_view, own_flats, scores_at, there_at}
use Rattle.bucket_aggs.proofs.terms.counted.Goals as goal

pub set-requires : goal.set-requires
set-requires c = omega (arith, c.entries-test.true, long_view c.args.entries.now c.args.objects.now c.requires.long)

pub add_rows-requires : goal.add_rows-requires
add_rows-requires c =
    let s = scores_at c.entries.at c.args.objects.now in
    ap length c.set.ensures ∙ length-map s is_some
    ∙ entry_long c.entries.at c.args.entries.now c.args.objects.now c.index-entries-at.result s c.segment.result.now c.requires.long c.entries-test.true c.index-entries-at.is
    (there_at c.entries.at c.args.entries.now c.args.objects.now c.requires.long c.entries-test.true) c.segment.ensures

pub entries-init : goal.entries-init
entries-init c = (
  counting_start c.args.kind c.args.field c.args.entries.now c.args.objects.now c.new-rows.result.items c.new-rows.ensures.items,
  subst (AreKnown c.args.entries.now c.args.objects.now) (sym c.requires.none) tt,
)

pub entries-preserved : goal.entries-preserved
entries-preserved c =
    let view = c.args.entries.now in
    let scores = c.args.objects.now in
    let e = c.index-entries-at.result in
    let s = scores_at c.entries.at c.args.objects.now in
    let there : s ≡ get_or scores c.entries.at s = there_at c.entries.at c.args.entries.now c.args.objects.now c.requires.long c.entries-test.true in
    let step : flats_from c.entries.at view scores ≡ own_flats c.segment.result.now c.set.result.now ++ flats_from (c.entries.at + 1) view scores =
    flats_step c.entries.at view scores e s c.segment.result.now c.set.result.now c.requires.long c.entries-test.true c.index-entries-at.is
    there c.segment.ensures c.set.ensures in (
      counting_step c.args.kind c.args.field c.entries.at view scores (own_flats c.segment.result.now c.set.result.now) c.entries.rows.items c.add_rows.new.rows.items step c.entries.invariant.0 c.in_ok-add_rows.ensures.counts c.in_ok-add_rows.ensures.keys,
      known_more c.entries.at view scores e s c.segment.result.now c.set.result.now c.entries.found.items c.add_rows.new.found.items c.requires.long c.entries-test.true c.index-entries-at.is there c.segment.ensures c.set.ensures c.entries.invariant.1 c.in_ok-add_rows.ensures.found,
    )

pub returns-clause-counts : goal.returns-clause-counts
returns-clause-counts c =
    counting_end c.args.kind c.args.field c.entries.at c.args.entries.now c.args.objects.now c.entries.rows.items c.in_ok-merged.field-0.items (omega (arith, c.entries-test.false)) c.entries.invariant.0
    c.in_ok-merged.ensures.ascend c.in_ok-merged.ensures.counts (c.in_ok-merged.ensures.keys c.args.kind)
