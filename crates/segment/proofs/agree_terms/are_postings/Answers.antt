use Rattle.std.proofs.Common.{◌∙◌, ◌<◌, length, sym, ap, arith}
use Rattle.std.proofs.lemmas.Bool.{false≢true}
use Rattle.std.proofs.lemmas.Option.{slice_get_within}
use Rattle.segment.specs.Kinds.{IsPosting}
use Rattle.segment.proofs.Tested.{stands_at, tested_all, tested_fails}
use Rattle.segment.proofs.agree_terms.are_postings.Goals as goal

pub returns-then-not-is_posting : goal.returns-then-not-is_posting
returns-then-not-is_posting c =
    let was = rw c.in-Some.is at c.postings.invariant in
    tested_fails (IsPosting c.args.kind.now) c.args.postings.postings c.postings.cursor c.in-Some.doc was
    (λ posting own long is. false≢true (sym c.if-not-is_posting.true ∙ (c.is_posting.ensures posting own (long ∙ sym c.positions.ensures)).1 is))

pub postings-smaller : goal.postings-smaller
postings-smaller c =
    let was = rw c.in-Some.is at c.postings.invariant in
    let here = stands_at c.postings.cursor c.in-Some.doc was.document in
    let inside : c.postings.cursor.at < length c.postings.cursor.postings = slice_get_within c.postings.cursor.postings c.postings.cursor.at here.posting here.is in
    omega (arith, inside, c.next-present.ensures.place, ap length was.own)

pub returns : goal.returns
returns c =
    let was = rw c.in_default.is at c.postings.invariant in
    tested_all (IsPosting c.args.kind.now) c.args.postings.postings c.postings.cursor was
