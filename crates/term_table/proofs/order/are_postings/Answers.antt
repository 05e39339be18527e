use Rattle.std.proofs.Common.{ℕ, List, arith, refl, sym, ◌∙◌}
use Rattle.std.proofs.lemmas.Bool.{false≢true}
use Rattle.part_text.specs.Order.{followed_fails, followed_end}
use Rattle.term_table.specs.Laws.{MayBePosting, after_follows, postings_from, postings_to}
use Rattle.term_table.proofs.order.are_postings.Goals as goal

pub returns-then-not-follows : goal.returns-then-not-follows
returns-then-not-follows c = (
  λ no. absurd (false≢true no),
  λ are. absurd (followed_fails (λ (posting : ℕ × List ℕ). posting.0) MayBePosting c.args.postings.now c.postings.before c.postings.document-index c.postings-item.result c.postings.invariant c.postings-test.true c.postings-item.is
      (λ may. false≢true (sym c.if-not-follows.true ∙ c.follows.ensures ∙ after_follows c.postings.before c.postings-item.result.0 may.1)) (postings_to c.args.postings.now are).1),
)

pub returns : goal.returns
returns c = (
  λ _. postings_from c.args.postings.now (omega (arith, c.if-postings.false), followed_end (λ (posting : ℕ × List ℕ). posting.0) MayBePosting c.args.postings.now c.postings.before c.postings.document-index c.postings.invariant c.postings-test.false),
  λ _. refl,
)
