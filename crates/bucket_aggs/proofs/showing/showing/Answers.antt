use Rattle.std.proofs.Common.{◌≡◌, List, length, get_or, ap, ◌∙◌, arith}
use Rattle.tree_objects.specs.declared.field_value.FieldValue.TheVariants.{Written}
use Rattle.bucket_aggs.specs.Counts.{shows}
use Rattle.bucket_aggs.proofs.Cuts.{entry_long, known_own, passed_all, passed_on, passed_step}
use Rattle.bucket_aggs.proofs.Viewed.{Scores, long_view}
use Rattle.bucket_aggs.proofs.showing.showing.Goals as goal

pub bounds-objects-at : goal.bounds-objects-at
bounds-objects-at c = omega (arith, c.entries-test.true, long_view c.args.entries.now c.args.objects.now c.requires.long, ap (λ (l : List Scores). length l) c.as_slice-objects.ensures)

pub own_showing-requires-clause-long : goal.own_showing-requires-clause-long
own_showing-requires-clause-long c =
    let s = c.index-objects-at.result in
    entry_long c.entries.at c.args.entries.now c.args.objects.now c.index-entries-at.result s c.segment.result.now c.requires.long c.entries-test.true c.index-entries-at.is
    (c.index-objects-at.is ∙ ap (λ (l : List Scores). get_or l c.entries.at s) c.as_slice-objects.ensures) c.segment.ensures

pub own_showing-requires-clause-found : goal.own_showing-requires-clause-found
own_showing-requires-clause-found c =
    let e = c.index-entries-at.result in
    let s = c.index-objects-at.result in
    known_own c.entries.at c.args.entries.now c.args.objects.now e s c.segment.result.now c.args.found.now c.entries-test.true c.index-entries-at.is
    (c.index-objects-at.is ∙ ap (λ (l : List Scores). get_or l c.entries.at s) c.as_slice-objects.ensures) c.segment.ensures c.requires.found

pub entries-preserved : goal.entries-preserved
entries-preserved c =
    let view = c.args.entries.now in
    let scores = c.args.objects.now in
    let e = c.index-entries-at.result in
    let s = c.index-objects-at.result in
    let there : s ≡ get_or scores c.entries.at s = c.index-objects-at.is ∙ ap (λ (l : List Scores). get_or l c.entries.at s) c.as_slice-objects.ensures in
    let test = shows c.args.kind c.args.field (Written c.args.text.now) in
    let own = c.in_ok-scores.scores in
    passed_on test c.entries.at view scores own c.entries.made.items c.push.new.self.items
    (passed_step test c.entries.at view scores e s c.segment.result.now own c.requires.long c.entries-test.true c.index-entries-at.is there c.segment.ensures c.in_ok-scores.ensures) c.entries.invariant c.in_ok-push.ensures.items

pub returns : goal.returns
returns c =
    c.of.ensures
    ∙ passed_all (shows c.args.kind c.args.field (Written c.args.text.now)) c.entries.at c.args.entries.now c.args.objects.now c.entries.made.items (omega (arith, c.entries-test.false)) c.requires.long c.entries.invariant
