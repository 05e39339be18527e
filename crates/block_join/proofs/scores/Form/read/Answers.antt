use Rattle.std.proofs.Common.{List, ℕ, None, length, get_or, ap, ◌∙◌, arith}
use Rattle.block_join.specs.Sums.{summed}
use Rattle.block_join.specs.declared.parts.Parts.{Parts}
use Rattle.block_join.proofs.Totals.{listed_score, listed_within, read_sum, read_within}
use Rattle.block_join.proofs.scores.Form.read.Goals as goal

pub listed_at-requires : goal.listed_at-requires
listed_at-requires c = omega (arith, ap (λ (l : List ℕ). length l) c.as_slice.ensures.value, listed_within c.requires.0 c.args.self.now c.in-Listed.scores c.args.at c.args.doc c.in-Listed.is c.requires.1)

pub at-requires-clause-within : goal.at-requires-clause-within
at-requires-clause-within c = omega (arith, ap (λ (p : Parts). p.len) c.deref.ensures, read_within c.requires.0 c.args.self.now c.in-Summed.parts c.in-Summed.is c.args.at c.args.doc c.requires.1)

pub returns-in-Listed-clause-score : goal.returns-in-Listed-clause-score
returns-in-Listed-clause-score c = λ flags read. c.listed_at.ensures.score ∙ ap (λ (l : List ℕ). get_or l c.args.at 0) c.as_slice.ensures.value ∙ listed_score flags c.args.self.now c.in-Listed.scores c.args.at c.args.doc c.in-Listed.is read

pub returns-in-Summed-clause-score : goal.returns-in-Summed-clause-score
returns-in-Summed-clause-score c = λ flags read.
    c.or_zero.ensures
    ∙ read_sum flags c.args.self.now c.in-Summed.parts c.in-Summed.is c.args.at c.args.doc read c.at.result (c.at.ensures ∙ ap (λ (p : Parts). get_or (summed p) c.args.doc None) c.deref.ensures)
