use Rattle.std.proofs.Common.{rules, tests, ℤ, map}
use Rattle.std.proofs.lemmas.Iterator.{cases_from_all, YieldsList-from_slice}
use Rattle.term_table.specs.declared.rows.TermRow.{TermRow}
use Rattle.segment_parts.specs.Agree.{IsKeyed}
use Rattle.segment_parts.specs.Passes.{all_iff}
use Rattle.segment_parts.proofs.given_values.have_keys_at.Goals as goal

pub returns : goal.returns
returns c =
    let P : ℤ → Type 0 = λ number. IsKeyed (map (λ (row : TermRow). row.term) c.args.terms.now) (map (λ (row : TermRow). row.postings) c.args.terms.now) c.args.field c.args.doc number in
    all_iff P c.args.numbers.now c.all.result
    (cases_from_all _ _ _ P (λ (own : ℤ). P own → ⊥) c.all.ensures.ran (YieldsList-from_slice c.args.numbers.now cc) (λ x q k. search (rules, tests)) (λ x q k. search (rules, tests)))
