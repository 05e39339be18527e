use Rattle.std.proofs.Common.{ap, ◌∙◌}
use Rattle.std.proofs.lemmas.List.Elements.{All-contains}
use Rattle.postings.specs.Postings.{place_from}
use Rattle.postings.specs.Skips.{IsSkip}
use Rattle.postings.proofs.Leaps.{skip_within, skip_at, skip_place}
use Rattle.postings.proofs.cursor.Cursor.leap.Goals as goal

pub split_at-requires : goal.split_at-requires
split_at-requires c =
    let it = c.self.inside in
    let is : IsSkip it.text.now c.in-Some.skip = All-contains (IsSkip it.text.now) it.skips.now c.in-Some.skip c.self.invariant.1 c.in-Some.ensures.0 in
    skip_within it.text.now c.in-Some.skip c.self.invariant.0.are is

pub invariant_of-self : goal.invariant_of-self
invariant_of-self c =
    let it = c.self.inside in
    let is : IsSkip it.text.now c.in-Some.skip = All-contains (IsSkip it.text.now) it.skips.now c.in-Some.skip c.self.invariant.1 c.in-Some.ensures.0 in
    rw c.split_at.ensures.back (skip_at it.text.now it.count it.at it.rest.now it.plain c.in-Some.skip c.self.invariant.0 is, c.self.invariant.1)

pub returns-then-skip-self-clause-place : goal.returns-then-skip-self-clause-place
returns-then-skip-self-clause-place c =
    let it = c.self.inside in
    let is : IsSkip it.text.now c.in-Some.skip = All-contains (IsSkip it.text.now) it.skips.now c.in-Some.skip c.self.invariant.1 c.in-Some.ensures.0 in
    skip_place it.text.now it.at c.in-Some.skip c.args.to c.self.invariant.0.are is c.if-skip-self.true c.in-Some.ensures.1 ∙ ap (place_from c.args.to) c.self.view_is
