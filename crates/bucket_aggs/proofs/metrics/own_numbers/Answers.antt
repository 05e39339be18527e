use Rattle.std.proofs.Common.{◌≡◌, ◌+◌, ◌++◌, length, is_some, sym, ap, subst, ◌∙◌, arith}
use Rattle.std.proofs.lemmas.List.{length-map}
use Rattle.bucket_aggs.proofs.Cuts.{entry_long}
use Rattle.bucket_aggs.proofs.Gathered.{Gathering, gathering_none, gathering_some}
use Rattle.bucket_aggs.proofs.Viewed.{flats_from, flats_step, long_view, own_flats, scores_at, there_at}
use Rattle.bucket_aggs.proofs.metrics.own_numbers.Goals.{in-Some+in_ok-push, in_default}
use Rattle.bucket_aggs.proofs.metrics.own_numbers.Goals as goal

pub set-requires : goal.set-requires
set-requires c = omega (arith, c.entries-test.true, long_view c.args.entries.now c.args.objects.now c.requires)

pub of-requires : goal.of-requires
of-requires c =
    let s = scores_at c.entries.at c.args.objects.now in
    ap length c.set.ensures ∙ length-map s is_some
    ∙ entry_long c.entries.at c.args.entries.now c.args.objects.now c.index-entries-at.result s c.segment.result.now c.requires c.entries-test.true c.index-entries-at.is
    (there_at c.entries.at c.args.entries.now c.args.objects.now c.requires c.entries-test.true) c.segment.ensures

pub entries-preserved : goal.entries-preserved
entries-preserved c =
    let f = c.args.field in
    let at = c.entries.at in
    let view = c.args.entries.now in
    let scores = c.args.objects.now in
    let e = c.index-entries-at.result in
    let s = scores_at c.entries.at c.args.objects.now in
    let own = own_flats c.segment.result.now c.set.result.now in
    let step : flats_from at view scores ≡ own ++ flats_from (at + 1) view scores =
    flats_step at view scores e s c.segment.result.now c.set.result.now c.requires c.entries-test.true c.index-entries-at.is
    (there_at c.entries.at c.args.entries.now c.args.objects.now c.requires c.entries-test.true) c.segment.ensures c.set.ensures in
    elim c.match-of.branch [
      | in-Some+in_ok-push w ↦
          subst (λ v. Gathering f (at + 1) view scores v.items) (sym w.all-is)
          (gathering_some f at view scores own c.entries.all.items step c.entries.invariant w.in-Some.own w.push.new.self.items w.in-Some.ensures.some w.in_ok-push.ensures.items)
      | in_default w ↦
          subst (λ v. Gathering f (at + 1) view scores v.items) (sym w.all-is) (gathering_none f at view scores own c.entries.all.items step c.entries.invariant w.in_default.ensures.none)
    ]
