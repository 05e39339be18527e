use Rattle.std.proofs.Common.{ℕ, ◌+◌, ◌*◌, true, List, drop, sym, ap, subst, ◌∙◌, arith, inl, inr}
use Rattle.std.proofs.lemmas.Bool.{cases_lt}
use Rattle.postings.specs.Postings.{place_from}
use Rattle.postings.specs.Search.{AreBelow}
use Rattle.postings.specs.Kept.{postings_of, IsAt}
use Rattle.postings.proofs.Places.{left_entries, left_place, at_leap}
use Rattle.postings.proofs.cursor.Cursor.advance.Goals as goal

pub gallop-low-requires : goal.gallop-low-requires
gallop-low-requires c =
    let it = c.self.inside in
    let ps : List (ℕ × List ℕ) = postings_of it.text.now in
    let is : IsAt ps it.count it.at it.rest.now true = subst (IsAt ps it.count it.at it.rest.now) c.if-not-self.false c.self.invariant.0 in
    left_entries ps it.count it.at it.rest.now is

pub first_from-passed-requires-clause-entries : goal.first_from-passed-requires-clause-entries
first_from-passed-requires-clause-entries c =
    let it = c.self.inside in
    let ps : List (ℕ × List ℕ) = postings_of it.text.now in
    let is : IsAt ps it.count it.at it.rest.now true = subst (IsAt ps it.count it.at it.rest.now) c.if-not-self.false c.self.invariant.0 in
    left_entries ps it.count it.at it.rest.now is

pub split_at-requires : goal.split_at-requires
split_at-requires c =
    let it = c.self.inside in
    let ps : List (ℕ × List ℕ) = postings_of it.text.now in
    let is : IsAt ps it.count it.at it.rest.now true = subst (IsAt ps it.count it.at it.rest.now) c.if-not-self.false c.self.invariant.0 in
    omega (arith, (left_entries ps it.count it.at it.rest.now is).room, c.first_from-passed.ensures.within.1, c.gallop-low.ensures.ordered.1)

pub invariant_of-self : goal.invariant_of-self
invariant_of-self c =
    let it = c.self.inside in
    let ps : List (ℕ × List ℕ) = postings_of it.text.now in
    let is : IsAt ps it.count it.at it.rest.now true = subst (IsAt ps it.count it.at it.rest.now) c.if-not-self.false c.self.invariant.0 in
    let passed : ℕ = c.first_from-passed.result in
    let further : IsAt ps it.count (it.at + passed) (drop (8 * passed) it.rest.now) true = at_leap ps it.count it.at it.rest.now passed is (omega (arith, c.first_from-passed.ensures.within.1, c.gallop-low.ensures.ordered.1)) in
    rw c.split_at.ensures.back (subst (IsAt ps it.count (it.at + passed) (drop (8 * passed) it.rest.now)) (sym c.if-not-self.false) further, c.self.invariant.1)

pub returns-clause-place : goal.returns-clause-place
returns-clause-place c =
    let it = c.self.inside in
    let ps : List (ℕ × List ℕ) = postings_of it.text.now in
    let is : IsAt ps it.count it.at it.rest.now true = subst (IsAt ps it.count it.at it.rest.now) c.if-not-self.false c.self.invariant.0 in
    let low : ℕ = c.gallop-low.result.0 in
    let passed : ℕ = c.first_from-passed.result in
    let below : AreBelow it.rest.now 0 passed c.args.to = λ k beyond before.
    elim (cases_lt k low) [
      | inl earlier ↦ c.gallop-low.ensures.below k beyond earlier
      | inr later ↦ c.first_from-passed.ensures.below k later before
    ] in
    left_place ps it.count it.at it.rest.now c.args.to passed is (omega (arith, c.first_from-passed.ensures.within.1, c.gallop-low.ensures.ordered.1)) below c.first_from-passed.ensures.reached
    ∙ ap (place_from c.args.to) c.self.view_is
