use Rattle.std.proofs.Common.{rules, tests}
use Rattle.std.proofs.lemmas.Iterator.{cases_from_all, YieldsList-from_slice}
use Rattle.segment_parts.specs.Agree.{IsKeywordAt}
use Rattle.segment_parts.specs.Passes.{all_iff}
use Rattle.segment_parts.proofs.given_terms.are_keyword.Goals as goal

pub returns : goal.returns
returns c =
    all_iff (IsKeywordAt c.args.column.now.1 c.args.ordinal) c.args.postings.now c.all.result
    (cases_from_all _ _ _ (IsKeywordAt c.args.column.now.1 c.args.ordinal) (λ own. (IsKeywordAt c.args.column.now.1 c.args.ordinal) own → ⊥) c.all.ensures.ran (YieldsList-from_slice c.args.postings.now cc) (λ x q k. search (rules, tests)) (λ x q k. search (rules, tests)))
