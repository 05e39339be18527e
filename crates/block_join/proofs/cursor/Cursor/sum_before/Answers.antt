use Rattle.std.proofs.Common.{ℕ, List, Option, Some, sum, sym, ap, ◌∙◌}
use Rattle.score_math.specs.Scores.{capped}
use Rattle.block_join.specs.Scores.{between}
use Rattle.block_join.proofs.Totals.{sum_later, sum_none, sum_some}
use Rattle.block_join.proofs.cursor.Cursor.sum_before.Goals as goal

pub returns-in_default-clause-value : goal.returns-in_default-clause-value
returns-in_default-clause-value c = sum_none c.args.self.now.scores c.args.self.now.from c.args.end (sym c.peek-ahead.ensures.value ∙ c.in_default.is)

pub returns-then-doc-end-clause-value : goal.returns-then-doc-end-clause-value
returns-then-doc-end-clause-value c =
    let scores = c.args.self.now.scores in
    ap (λ (n : ℕ). Some n)
    (c.total.ensures.sum
    ∙ ap (λ (l : List (Option ℕ)). capped (sum (between l c.from-from.result c.args.end))) (sym c.requires.sums)
    ∙ ap (λ (n : ℕ). capped (sum (between scores n c.args.end))) c.from-from.ensures.from)
    ∙ sum_some scores c.args.self.now.from c.args.end c.in-Some.doc (sym c.peek-ahead.ensures.value ∙ c.in-Some.is) c.if-doc-end.true

pub returns-else-doc-end-clause-value : goal.returns-else-doc-end-clause-value
returns-else-doc-end-clause-value c = sum_later c.args.self.now.scores c.args.self.now.from c.args.end c.in-Some.doc (sym c.peek-ahead.ensures.value ∙ c.in-Some.is) c.if-doc-end.false
