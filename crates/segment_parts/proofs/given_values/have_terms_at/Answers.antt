use Rattle.std.proofs.Common.{rules, tests, ℕ, map}
use Rattle.std.proofs.lemmas.Iterator.{cases_from_all, YieldsList-from_slice}
use Rattle.term_table.specs.declared.rows.TermRow.{TermRow}
use Rattle.segment_parts.specs.Agree.{IsOrdinalAt}
use Rattle.segment_parts.specs.Passes.{all_iff}
use Rattle.segment_parts.proofs.given_values.have_terms_at.Goals as goal

pub returns : goal.returns
returns c =
    let P : ℕ → Type 0 = λ ordinal. IsOrdinalAt (map (λ (row : TermRow). row.term) c.args.terms.now) (map (λ (row : TermRow). row.postings) c.args.terms.now) c.args.field c.args.doc ordinal in
    all_iff P c.args.ordinals.now c.all.result
    (cases_from_all _ _ _ P (λ (own : ℕ). P own → ⊥) c.all.ensures.ran (YieldsList-from_slice c.args.ordinals.now cc) (λ x q k. search (rules, tests)) (λ x q k. search (rules, tests)))
