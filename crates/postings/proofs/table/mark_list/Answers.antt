use Rattle.std.proofs.Common.{ℕ, ◌<◌, List, [], length, sym, ◌∙◌, arith}
use Rattle.postings.specs.Kept.{postings_of}
use Rattle.postings.proofs.Lists.{list_long, at_start, at_entry, has_entry, at_plain, at_next}
use Rattle.postings.proofs.Marked.{marking_start, marking_more}
use Rattle.postings.proofs.table.mark_list.Goals as goal

pub first_u32-count-requires : goal.first_u32-count-requires
first_u32-count-requires c = list_long c.args.text.now c.requires.list

pub split_at-requires : goal.split_at-requires
split_at-requires c = list_long c.args.text.now c.requires.list

pub postings-init : goal.postings-init
postings-init c =
    marking_start (postings_of c.args.text.now) c.args.set.now c.first_u32-count.result c.split_at.result.1.now c.is_plain-plain.result
    (at_start c.args.text.now c.first_u32-count.result c.split_at.result.1.now c.is_plain-plain.result c.requires.list c.first_u32-count.ensures c.split_at.ensures.back c.is_plain-plain.ensures)

pub first_u32-requires : goal.first_u32-requires
first_u32-requires c =
    let ps : List (ℕ × List ℕ) = postings_of c.args.text.now in
    let was = c.postings.invariant.is_at in
    let inside : c.postings.counter < length ps = omega (arith, c.postings-test.true, was.counts) in
    omega (arith, (at_entry ps c.first_u32-count.result c.postings.counter c.postings.rest.now c.is_plain-plain.result (0, []) was inside).long)

pub set-requires : goal.set-requires
set-requires c =
    let ps : List (ℕ × List ℕ) = postings_of c.args.text.now in
    let was = c.postings.invariant.is_at in
    let inside : c.postings.counter < length ps = omega (arith, c.postings-test.true, was.counts) in
    let e = at_entry ps c.first_u32-count.result c.postings.counter c.postings.rest.now c.is_plain-plain.result (0, []) was inside in
    omega (arith, c.first_u32.ensures, e.document, c.requires.within c.postings.counter (0, []) inside, c.postings.invariant.long)

pub behind_entry-rest-requires-clause-entry : goal.behind_entry-rest-requires-clause-entry
behind_entry-rest-requires-clause-entry c =
    let ps : List (ℕ × List ℕ) = postings_of c.args.text.now in
    let was = c.postings.invariant.is_at in
    let inside : c.postings.counter < length ps = omega (arith, c.postings-test.true, was.counts) in
    has_entry c.postings.rest.now _ _ (at_entry ps c.first_u32-count.result c.postings.counter c.postings.rest.now c.is_plain-plain.result (0, []) was inside)

pub behind_entry-rest-requires-clause-plainly : goal.behind_entry-rest-requires-clause-plainly
behind_entry-rest-requires-clause-plainly c =
    let ps : List (ℕ × List ℕ) = postings_of c.args.text.now in
    let was = c.postings.invariant.is_at in
    let inside : c.postings.counter < length ps = omega (arith, c.postings-test.true, was.counts) in
    at_plain ps c.first_u32-count.result c.postings.counter c.postings.rest.now c.is_plain-plain.result was inside

pub postings-preserved : goal.postings-preserved
postings-preserved c =
    let ps : List (ℕ × List ℕ) = postings_of c.args.text.now in
    let was = c.postings.invariant.is_at in
    let inside : c.postings.counter < length ps = omega (arith, c.postings-test.true, was.counts) in
    let e = at_entry ps c.first_u32-count.result c.postings.counter c.postings.rest.now c.is_plain-plain.result (0, []) was inside in
    rw (c.set.ensures, c.behind_entry-rest.ensures)
    (marking_more ps c.args.set.now c.postings.set c.first_u32-count.result c.postings.counter c.postings.rest.now c.is_plain-plain.result c.first_u32.result _ c.postings.invariant inside (sym (c.first_u32.ensures ∙ e.document))
    (at_next ps c.first_u32-count.result c.postings.counter c.postings.rest.now c.is_plain-plain.result was inside))
