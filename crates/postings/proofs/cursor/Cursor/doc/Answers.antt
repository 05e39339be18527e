use Rattle.std.proofs.Common.{ℕ, List, Some, sym, ap, ◌∙◌, arith}
use Rattle.postings.specs.Kept.{postings_of}
use Rattle.postings.proofs.Lists.{Shown, shown, shown_none}
use Rattle.postings.proofs.cursor.Cursor.doc.Goals as goal

pub first_u32-requires : goal.first_u32-requires
first_u32-requires c =
    let it = c.self.inside in
    let ps : List (ℕ × List ℕ) = postings_of it.text.now in
    let sh : Shown it.rest.now c.args.self.now = shown ps it.count it.at it.rest.now it.plain c.args.self.now c.self.view_is c.self.invariant.0 (omega (arith, c.if-self.true, c.self.invariant.0.counts)) in
    omega (arith, sh.long)

pub returns-then-self-clause-document : goal.returns-then-self-clause-document
returns-then-self-clause-document c =
    let it = c.self.inside in
    let ps : List (ℕ × List ℕ) = postings_of it.text.now in
    let sh : Shown it.rest.now c.args.self.now = shown ps it.count it.at it.rest.now it.plain c.args.self.now c.self.view_is c.self.invariant.0 (omega (arith, c.if-self.true, c.self.invariant.0.counts)) in
    ap (λ (n : ℕ). Some n) c.first_u32.ensures ∙ sym sh.document

pub returns-else-self-clause-document : goal.returns-else-self-clause-document
returns-else-self-clause-document c =
    let it = c.self.inside in
    let ps : List (ℕ × List ℕ) = postings_of it.text.now in
    sym (shown_none ps it.at c.args.self.now c.self.view_is (omega (arith, c.if-self.false, c.self.invariant.0.counts)))
