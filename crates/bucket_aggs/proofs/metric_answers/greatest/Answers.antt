use Rattle.std.proofs.Common.{ℕ, Option, None, sym, subst}
use Rattle.mapping.specs.Mapping.{kind_at}
use Rattle.query_ast.specs.Resolved.{IsUse}
use Rattle.bucket_aggs.specs.Given.{IsAnswer, greatest_by}
use Rattle.bucket_aggs.proofs.Formed.{greatest_told, none_greatest, summed_plain, summed_sorted}
use Rattle.bucket_aggs.proofs.metric_answers.greatest.Goals as goal

pub returns-in_ok-sums-in-Some-clause-answer : goal.returns-in_ok-sums-in-Some-clause-answer
returns-in_ok-sums-in-Some-clause-answer c = λ m n given asked is.
    let f : ℕ = c.in-Some.field in
    let own = subst (λ (field : Option ℕ). IsUse (λ u. u.summed) m field) c.in-Some.is asked in
    subst (λ (field : Option ℕ). IsAnswer m c.args.entries.now n (greatest_by m field) given c.in_ok-sums-in-Some.sums.greatest) (sym c.in-Some.is)
    (greatest_told m c.args.entries.now n f given c.args.objects.now (λ o. c.documents_show_values.ensures.shown m f o own.0 (summed_sorted (kind_at m f) own.1)) is (summed_plain (kind_at m f) own.1) c.in_ok-sums-in-Some.sums c.in_ok-sums-in-Some.ensures.sums)

pub returns-in-None-clause-answer : goal.returns-in-None-clause-answer
returns-in-None-clause-answer c = λ m n given asked is.
    subst (λ (field : Option ℕ). IsAnswer m c.args.entries.now n (greatest_by m field) given None) (sym c.in-None.is) (none_greatest m c.args.entries.now n given)
