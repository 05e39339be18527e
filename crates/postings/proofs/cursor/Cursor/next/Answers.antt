use Rattle.std.proofs.Common.{ℕ, List, [], arith}
use Rattle.postings.specs.Kept.{postings_of}
use Rattle.postings.proofs.Lists.{at_entry, has_entry, at_plain, at_next}
use Rattle.postings.proofs.cursor.Cursor.next.Goals as goal

pub behind_entry-self-inside-requires-clause-entry : goal.behind_entry-self-inside-requires-clause-entry
behind_entry-self-inside-requires-clause-entry c =
    let it = c.self.inside in
    let ps : List (ℕ × List ℕ) = postings_of it.text.now in
    has_entry it.rest.now _ _ (at_entry ps it.count it.at it.rest.now it.plain (0, []) c.self.invariant.0 (omega (arith, c.if-self.true, c.self.invariant.0.counts)))

pub behind_entry-self-inside-requires-clause-plainly : goal.behind_entry-self-inside-requires-clause-plainly
behind_entry-self-inside-requires-clause-plainly c =
    let it = c.self.inside in
    let ps : List (ℕ × List ℕ) = postings_of it.text.now in
    at_plain ps it.count it.at it.rest.now it.plain c.self.invariant.0 (omega (arith, c.if-self.true, c.self.invariant.0.counts))

pub invariant_of-self : goal.invariant_of-self
invariant_of-self c =
    let it = c.self.inside in
    let ps : List (ℕ × List ℕ) = postings_of it.text.now in
    rw c.behind_entry-self-inside.ensures (at_next ps it.count it.at it.rest.now it.plain c.self.invariant.0 (omega (arith, c.if-self.true, c.self.invariant.0.counts)), c.self.invariant.1)
