use Rattle.std.proofs.Common.{◌↔◌, rules, tests, IsTrue, All, subst, ℕ, ℤ, List, IsNone}
use Rattle.std.proofs.lemmas.Iterator.{cases_from_all, YieldsList-from_slice}
use Rattle.segment_parts.specs.Fields.{column_of}
use Rattle.segment_parts.specs.Passes.{all_iff}
use Rattle.segment_parts.proofs.given.are_numbers_apart.Goals as goal

pub returns : goal.returns
returns c =
    subst (λ (own : List (ℕ × List (ℕ × List ℤ))). IsTrue c.all.result ↔ All (λ (own : ℕ × List (ℕ × List ℤ)). IsNone (column_of own.0 c.args.columns.now.present)) own) c.as_slice.ensures.columns
    (all_iff (λ (own : ℕ × List (ℕ × List ℤ)). IsNone (column_of own.0 c.args.columns.now.present)) c.as_slice.result.now c.all.result
    (cases_from_all _ _ _ (λ (own : ℕ × List (ℕ × List ℤ)). IsNone (column_of own.0 c.args.columns.now.present)) (λ own. (λ (own : ℕ × List (ℕ × List ℤ)). IsNone (column_of own.0 c.args.columns.now.present)) own → ⊥) c.all.ensures.ran (YieldsList-from_slice c.as_slice.result.now cc) (λ x q k. search (rules, tests)) (λ x q k. search (rules, tests))))
