use Rattle.std.proofs.Common.{map, sym, ap, ◌∙◌, arith}
use Rattle.std.specs.List.{enumerate_from}
use Rattle.std.proofs.lemmas.List.{length-map}
use Rattle.calendar_intervals.specs.Starts.{starts}
use Rattle.composite_aggs.specs.Composite.{histogram_of}
use Rattle.composite_aggs.specs.Kept.{bucket_of}
use Rattle.composite_aggs.specs.Rows.{date_keys, places_of}
use Rattle.composite_aggs.specs.Spread.{spread}
use Rattle.composite_aggs.proofs.Filling.{if_err, if_ok, if_ok_both}
use Rattle.composite_aggs.proofs.Histograms.{fill_cause, fill_is, merged_few, page_starts, plain_is, too_many}
use Rattle.composite_aggs.proofs.Spread.{sorted_is}
use Rattle.composite_aggs.proofs.intervals.histogram.Goals as goal

pub returns-then-len-gt-MOST_BUCKETS-clause-cause : goal.returns-then-len-gt-MOST_BUCKETS-clause-cause
returns-then-len-gt-MOST_BUCKETS-clause-cause c =
    too_many c.args.interval c.args.fill (enumerate_from 0 c.args.rows.now) (map bucket_of c.in_ok-kept.kept.items) (sorted_is (starts c.args.interval) (c.starts_ascend.ensures c.args.interval)) c.in_ok-kept.ensures.kept (omega (arith, length-map c.in_ok-kept.kept.items bucket_of))

pub with_all_between-requires-clause-starts : goal.with_all_between-requires-clause-starts
with_all_between-requires-clause-starts c =
    page_starts c.args.interval 10_001 (enumerate_from 0 c.args.rows.now) (map bucket_of c.in_ok-kept.kept.items) c.in_ok-kept.ensures.kept

pub returns-then-fill-clause-buckets : goal.returns-then-fill-clause-buckets
returns-then-fill-clause-buckets c =
    if_ok c.with_all_between.result (λ made e.
    e
    ∙ fill_is c.args.interval (enumerate_from 0 c.args.rows.now) (map bucket_of c.in_ok-kept.kept.items) (sorted_is (starts c.args.interval) (c.starts_ascend.ensures c.args.interval)) c.in_ok-kept.ensures.kept (omega (arith, length-map c.in_ok-kept.kept.items bucket_of))
    ∙ ap (λ b. map places_of (histogram_of (date_keys c.args.interval) c.args.interval b (enumerate_from 0 c.args.rows.now))) (sym c.if-fill.true)) c.with_all_between.ensures.made

pub returns-then-fill-clause-few : goal.returns-then-fill-clause-few
returns-then-fill-clause-few c =
    if_ok_both c.with_all_between.result (λ made e h. merged_few (spread c.args.interval (map bucket_of c.in_ok-kept.kept.items)) (map bucket_of c.in_ok-kept.kept.items) made.items e h) c.with_all_between.ensures.made c.with_all_between.ensures.few

pub returns-then-fill-clause-cause : goal.returns-then-fill-clause-cause
returns-then-fill-clause-cause c =
    if_err c.with_all_between.result (λ e h. fill_cause c.args.interval c.args.fill c.args.rows.now (map bucket_of c.in_ok-kept.kept.items) e c.if-fill.true c.in_ok-kept.ensures.kept (omega (arith, length-map c.in_ok-kept.kept.items bucket_of)) h) c.with_all_between.ensures.cause

pub returns-else-fill-clause-buckets : goal.returns-else-fill-clause-buckets
returns-else-fill-clause-buckets c =
    plain_is c.args.interval (enumerate_from 0 c.args.rows.now) (map bucket_of c.in_ok-kept.kept.items) c.in_ok-kept.ensures.kept (omega (arith, length-map c.in_ok-kept.kept.items bucket_of))
    ∙ ap (λ b. map places_of (histogram_of (date_keys c.args.interval) c.args.interval b (enumerate_from 0 c.args.rows.now))) (sym c.if-fill.false)
