use Rattle.std.proofs.Common.{◌↔◌, rules, tests, IsTrue, All, subst, ℕ, List, IsNone}
use Rattle.std.proofs.lemmas.Iterator.{cases_from_all, YieldsList-from_slice}
use Rattle.segment_parts.specs.Fields.{column_of}
use Rattle.segment_parts.specs.Passes.{all_iff}
use Rattle.segment_parts.proofs.given.are_ordinals_apart.Goals as goal

pub returns : goal.returns
returns c =
    subst (λ (own : List (ℕ × List (ℕ × List ℕ))). IsTrue c.all.result ↔ All (λ (own : ℕ × List (ℕ × List ℕ)). IsNone (column_of own.0 c.args.columns.now.numbers) × IsNone (column_of own.0 c.args.columns.now.present)) own) c.as_slice.ensures.columns
    (all_iff (λ (own : ℕ × List (ℕ × List ℕ)). IsNone (column_of own.0 c.args.columns.now.numbers) × IsNone (column_of own.0 c.args.columns.now.present)) c.as_slice.result.now c.all.result
    (cases_from_all _ _ _ (λ (own : ℕ × List (ℕ × List ℕ)). IsNone (column_of own.0 c.args.columns.now.numbers) × IsNone (column_of own.0 c.args.columns.now.present)) (λ own. (λ (own : ℕ × List (ℕ × List ℕ)). IsNone (column_of own.0 c.args.columns.now.numbers) × IsNone (column_of own.0 c.args.columns.now.present)) own → ⊥) c.all.ensures.ran (YieldsList-from_slice c.as_slice.result.now cc) (λ x q k. search (rules, tests)) (λ x q k. search (rules, tests))))
