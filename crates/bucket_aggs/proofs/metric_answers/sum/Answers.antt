use Rattle.std.proofs.Common.{ℕ, ℤ, pos, Option, Some, sym, subst, ◌∙◌, rules, w64}
use Rattle.std.proofs.lemmas.Int.{to_z-of_z}
use mir.Val.{SFits, of_z, to_z}
use Rattle.mapping.specs.Mapping.{kind_at}
use Rattle.query_ast.specs.Resolved.{IsUse}
use Rattle.bucket_aggs.specs.Given.{IsAnswer, sum_by_field}
use Rattle.bucket_aggs.proofs.Formed.{none_sum, summed_plain, summed_sorted, total_told}
use Rattle.bucket_aggs.proofs.metric_answers.sum.Goals as goal

pub returns-in_ok-sums-in-Some-clause-answer : goal.returns-in_ok-sums-in-Some-clause-answer
returns-in_ok-sums-in-Some-clause-answer c = λ m n given asked is.
    let f : ℕ = c.in-Some.field in
    let own = subst (λ (field : Option ℕ). IsUse (λ u. u.summed) m field) c.in-Some.is asked in
    let fits : SFits w64 c.sum.result = search rules in
    subst (λ (field : Option ℕ). IsAnswer m c.args.entries.now n (sum_by_field m field) given (to_z w64 (of_z w64 c.sum.result))) (sym c.in-Some.is)
    (subst (λ (z : ℤ). IsAnswer m c.args.entries.now n (sum_by_field m (Some f)) given z) (sym (to_z-of_z w64 c.sum.result fits ∙ c.sum.ensures))
    (total_told m c.args.entries.now n f given c.args.objects.now (λ o. c.documents_show_values.ensures.shown m f o own.0 (summed_sorted (kind_at m f) own.1)) is (summed_plain (kind_at m f) own.1) c.in_ok-sums-in-Some.sums c.in_ok-sums-in-Some.ensures.sums))

pub returns-in-None-clause-answer : goal.returns-in-None-clause-answer
returns-in-None-clause-answer c = λ m n given asked is.
    subst (λ (field : Option ℕ). IsAnswer m c.args.entries.now n (sum_by_field m field) given (pos 0)) (sym c.in-None.is) (none_sum m c.args.entries.now n given)
