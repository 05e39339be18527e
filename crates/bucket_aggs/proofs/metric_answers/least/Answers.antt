use Rattle.std.proofs.Common.{ℕ, Option, None, sym, subst}
use Rattle.mapping.specs.Mapping.{kind_at}
use Rattle.query_ast.specs.Resolved.{IsUse}
use Rattle.bucket_aggs.specs.Given.{IsAnswer, least_by}
use Rattle.bucket_aggs.proofs.Formed.{least_told, none_least, summed_plain, summed_sorted}
use Rattle.bucket_aggs.proofs.metric_answers.least.Goals as goal

pub returns-in_ok-sums-in-Some-clause-answer : goal.returns-in_ok-sums-in-Some-clause-answer
returns-in_ok-sums-in-Some-clause-answer c = λ m n given asked is.
    let f : ℕ = c.in-Some.field in
    let own = subst (λ (field : Option ℕ). IsUse (λ u. u.summed) m field) c.in-Some.is asked in
    subst (λ (field : Option ℕ). IsAnswer m c.args.entries.now n (least_by m field) given c.in_ok-sums-in-Some.sums.least) (sym c.in-Some.is)
    (least_told m c.args.entries.now n f given c.args.objects.now (λ o. c.documents_show_values.ensures.shown m f o own.0 (summed_sorted (kind_at m f) own.1)) is (summed_plain (kind_at m f) own.1) c.in_ok-sums-in-Some.sums c.in_ok-sums-in-Some.ensures.sums)

pub returns-in-None-clause-answer : goal.returns-in-None-clause-answer
returns-in-None-clause-answer c = λ m n given asked is.
    subst (λ (field : Option ℕ). IsAnswer m c.args.entries.now n (least_by m field) given None) (sym c.in-None.is) (none_least m c.args.entries.now n given)
