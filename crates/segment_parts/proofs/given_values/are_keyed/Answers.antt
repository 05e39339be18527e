use Rattle.std.proofs.Common.{◌↔◌, rules, tests, IsTrue, All, subst, ℕ, ℤ, List, map}
use Rattle.std.proofs.lemmas.Iterator.{cases_from_all, YieldsList-from_slice}
use Rattle.term_table.specs.declared.rows.TermRow.{TermRow}
use Rattle.segment_parts.specs.Agree.{IsKeyed}
use Rattle.segment_parts.specs.Passes.{all_iff}
use Rattle.segment_parts.proofs.given_values.are_keyed.Goals as goal

pub returns : goal.returns
returns c =
    subst (λ (own : List (ℕ × List ℤ)). IsTrue c.all.result ↔ All (λ (own : ℕ × List ℤ). All (λ number. IsKeyed (map (λ (row : TermRow). row.term) c.args.terms.now) (map (λ (row : TermRow). row.postings) c.args.terms.now) c.args.column.now.0 own.0 number) own.1) own) c.as_slice.ensures.rows
    (all_iff (λ (own : ℕ × List ℤ). All (λ number. IsKeyed (map (λ (row : TermRow). row.term) c.args.terms.now) (map (λ (row : TermRow). row.postings) c.args.terms.now) c.args.column.now.0 own.0 number) own.1) c.as_slice.result.now c.all.result
    (cases_from_all _ _ _ (λ (own : ℕ × List ℤ). All (λ number. IsKeyed (map (λ (row : TermRow). row.term) c.args.terms.now) (map (λ (row : TermRow). row.postings) c.args.terms.now) c.args.column.now.0 own.0 number) own.1) (λ own. (λ (own : ℕ × List ℤ). All (λ number. IsKeyed (map (λ (row : TermRow). row.term) c.args.terms.now) (map (λ (row : TermRow). row.postings) c.args.terms.now) c.args.column.now.0 own.0 number) own.1) own → ⊥) c.all.ensures.ran (YieldsList-from_slice c.as_slice.result.now cc) (λ x q k. search (rules, tests)) (λ x q k. search (rules, tests))))
