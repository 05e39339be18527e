use Rattle.std.proofs.Common.{◌↔◌, rules, tests, IsTrue, All, subst, ℕ, List}
use Rattle.std.proofs.lemmas.Iterator.{cases_from_all, YieldsList-from_slice}
use Rattle.segment_parts.specs.Agree.{AreWithin}
use Rattle.segment_parts.specs.Passes.{all_iff}
use Rattle.segment_parts.proofs.given.are_within.Goals as goal

pub returns : goal.returns
returns g c =
    subst (λ (own : List (ℕ × List (ℕ × List g.row.T.Denot))). IsTrue c.all.result ↔ All (λ (own : ℕ × List (ℕ × List g.row.T.Denot)). AreWithin c.args.documents own.1) own) c.as_slice.ensures.columns
    (all_iff (λ (own : ℕ × List (ℕ × List g.row.T.Denot)). AreWithin c.args.documents own.1) c.as_slice.result.now c.all.result
    (cases_from_all _ _ _ (λ (own : ℕ × List (ℕ × List g.row.T.Denot)). AreWithin c.args.documents own.1) (λ own. (λ (own : ℕ × List (ℕ × List g.row.T.Denot)). AreWithin c.args.documents own.1) own → ⊥) c.all.ensures.ran (YieldsList-from_slice c.as_slice.result.now cc) (λ x q k. search (rules, tests)) (λ x q k. search (rules, tests))))
