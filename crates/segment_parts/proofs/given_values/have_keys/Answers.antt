use Rattle.std.proofs.Common.{◌↔◌, rules, tests, IsTrue, All, subst, ℕ, ℤ, List}
use Rattle.std.proofs.lemmas.Iterator.{cases_from_all, YieldsList-from_slice}
use Rattle.segment_parts.specs.Lists.{terms_of, postings_of}
use Rattle.segment_parts.specs.Agree.{HaveKeys}
use Rattle.segment_parts.specs.Passes.{all_iff}
use Rattle.segment_parts.proofs.given_values.have_keys.Goals as goal

pub returns : goal.returns
returns c =
    subst (λ (own : List (ℕ × List (ℕ × List ℤ))). IsTrue c.all.result ↔ All (HaveKeys (terms_of c.args.columns.now) (postings_of c.args.columns.now)) own) c.as_slice.ensures.columns
    (all_iff (HaveKeys (terms_of c.args.columns.now) (postings_of c.args.columns.now)) c.as_slice.result.now c.all.result
    (cases_from_all _ _ _ (HaveKeys (terms_of c.args.columns.now) (postings_of c.args.columns.now)) (λ own. (HaveKeys (terms_of c.args.columns.now) (postings_of c.args.columns.now)) own → ⊥) c.all.ensures.ran (YieldsList-from_slice c.as_slice.result.now cc) (λ x q k. search (rules, tests)) (λ x q k. search (rules, tests))))
