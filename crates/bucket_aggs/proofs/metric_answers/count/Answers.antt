use Rattle.std.proofs.Common.{◌≡◌, ℕ, ℤ, pos, sum_by, Option, Some, sym, subst, ◌∙◌, rules, w64}
use Rattle.std.proofs.lemmas.Int.{to_z-of_z}
use mir.Val.{SFits, of_z, to_z}
use Rattle.mapping.specs.Mapping.{kind_at}
use Rattle.mapping_body.specs.declared.kind.Kind.{Kind}
use Rattle.query_ast.specs.Resolved.{IsUse}
use Rattle.bucket_aggs.specs.Counts.{flats_of_view}
use Rattle.bucket_aggs.specs.Given.{IsAnswer, count_by_field}
use Rattle.bucket_aggs.specs.Sums.{values_in}
use Rattle.bucket_aggs.proofs.Formed.{count_told, none_count}
use Rattle.bucket_aggs.proofs.metric_answers.count.Goals as goal

pub returns-in_ok-number-in-Some-clause-answer : goal.returns-in_ok-number-in-Some-clause-answer
returns-in_ok-number-in-Some-clause-answer c = λ n given is.
    let m = c.args.mapping.now in
    let view = c.args.entries.now in
    let f : ℕ = c.in-Some.field in
    let own = subst (λ (field : Option ℕ). IsUse (λ u. u.sorted) m field) c.in-Some.is c.requires.field in
    let number : ℤ = c.in_ok-number-in-Some.number in
    let fits : SFits w64 number = search rules in
    let count : ℕ = c.in_ok-count-in-Some.count in
    let counted : count ≡ sum_by (values_in (kind_at m f) f) (flats_of_view view c.args.objects.now) =
    subst (λ (kind : Kind). count ≡ sum_by (values_in kind f) (flats_of_view view c.args.objects.now)) c.kind.ensures c.in_ok-count-in-Some.ensures.count in
    subst (λ (field : Option ℕ). IsAnswer m view n (count_by_field m field) given (to_z w64 (of_z w64 number))) (sym c.in-Some.is)
    (subst (λ (z : ℤ). IsAnswer m view n (count_by_field m (Some f)) given z) (sym (to_z-of_z w64 number fits ∙ c.in_ok-number-in-Some.ensures))
    (count_told m view n f given c.args.objects.now (λ o. c.documents_show_values.ensures.shown m f o own.0 own.1) is count counted))

pub returns-in-None-clause-answer : goal.returns-in-None-clause-answer
returns-in-None-clause-answer c = λ n given is.
    let m = c.args.mapping.now in
    subst (λ (field : Option ℕ). IsAnswer m c.args.entries.now n (count_by_field m field) given (pos 0)) (sym c.in-None.is) (none_count m c.args.entries.now n given)
