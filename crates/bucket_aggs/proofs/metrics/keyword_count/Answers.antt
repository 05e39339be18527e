use Rattle.std.proofs.Common.{◌≡◌, ◌+◌, ◌++◌, ℕ, length, is_some, ap, ◌∙◌, arith}
use Rattle.std.proofs.lemmas.List.{length-map}
use Rattle.bucket_aggs.proofs.Cuts.{entry_long}
use Rattle.bucket_aggs.specs.Sums.{keywords_in}
use Rattle.bucket_aggs.proofs.Viewed.{adds_step, flats_from, flats_step, long_view, own_flats, scores_at, there_at}
use Rattle.bucket_aggs.proofs.metrics.keyword_count.Goals as goal

pub set-requires : goal.set-requires
set-requires c = omega (arith, c.entries-test.true, long_view c.args.entries.now c.args.objects.now c.requires)

pub own_count-requires : goal.own_count-requires
own_count-requires c =
    let s = scores_at c.entries.at c.args.objects.now in
    ap length c.set.ensures ∙ length-map s is_some
    ∙ entry_long c.entries.at c.args.entries.now c.args.objects.now c.index-entries-at.result s c.segment.result.now c.requires c.entries-test.true c.index-entries-at.is
    (there_at c.entries.at c.args.entries.now c.args.objects.now c.requires c.entries-test.true) c.segment.ensures

pub entries-preserved : goal.entries-preserved
entries-preserved c =
    let view = c.args.entries.now in
    let scores = c.args.objects.now in
    let e = c.index-entries-at.result in
    let s = scores_at c.entries.at c.args.objects.now in
    let step : flats_from c.entries.at view scores ≡ own_flats c.segment.result.now c.set.result.now ++ flats_from (c.entries.at + 1) view scores =
    flats_step c.entries.at view scores e s c.segment.result.now c.set.result.now c.requires c.entries-test.true c.index-entries-at.is
    (there_at c.entries.at c.args.entries.now c.args.objects.now c.requires c.entries-test.true) c.segment.ensures c.set.ensures in
    adds_step (keywords_in c.args.field) c.entries.at view scores (own_flats c.segment.result.now c.set.result.now) c.entries.count c.in-Some.more step c.entries.invariant
    (c.in-Some.ensures.1 ∙ ap (λ (n : ℕ). c.entries.count + n) c.in_ok-own.ensures)
