use Rattle.std.proofs.Common.{◌≡◌, ℤ, ap, sym, subst, ◌∙◌, rules, w64}
use Rattle.std.proofs.lemmas.Int.{to_z-of_z}
use mir.Val.{SFits, of_z, to_z}
use Rattle.mapping.specs.Mapping.{kind_at}
use Rattle.mapping_body.specs.declared.kind.Kind.{Kind}
use Rattle.query_eval.specs.Found.{AreLong, IsSeen}
use Rattle.tree_objects.specs.declared.field_value.FieldValue.{FieldValue}
use Rattle.tree_objects.specs.declared.field_value.FieldValue.TheVariants.{Number, Written}
use Rattle.bucket_aggs.specs.Counts.{passed_of_view, shows}
use Rattle.bucket_aggs.specs.Given.{AreOfValue}
use Rattle.bucket_aggs.proofs.Cuts.{of_text, passed_long}
use Rattle.bucket_aggs.proofs.Formed.{no_text, of_term}
use Rattle.bucket_aggs.proofs.answers.of_value.Goals as goal

pub returns-in-Written-clause-long : goal.returns-in-Written-clause-long
returns-in-Written-clause-long c =
    let own = subst (AreLong c.args.entries.now) (sym (c.as_ref-own.ensures ∙ c.in_ok-kept.ensures)) c.requires.long in
    subst (AreLong c.args.entries.now) (sym (c.made.ensures ∙ c.in_ok-those-in-Written.ensures))
    (passed_long (shows c.kind-kind.result c.args.field (Written c.as_slice.result.now)) c.args.entries.now c.as_ref-own.result.now own)

pub returns-in-Written-clause-those : goal.returns-in-Written-clause-those
returns-in-Written-clause-those c = λ given is.
    let m = c.args.mapping.now in
    let view = c.args.entries.now in
    let f = c.args.field in
    let objects = c.as_ref-own.result.now in
    let those = c.in_ok-those-in-Written.those in
    let own = subst (IsSeen m view c.args.scope given) (sym (c.as_ref-own.ensures ∙ c.in_ok-kept.ensures)) is in
    let key : Written c.as_slice.result.now ≡ c.args.key.now = ap Written c.as_slice.ensures ∙ sym c.in-Written.is in
    let made : those ≡ passed_of_view (shows (kind_at m f) f c.args.key.now) view objects =
    c.in_ok-those-in-Written.ensures
    ∙ ap (λ (k : Kind). passed_of_view (shows k f (Written c.as_slice.result.now)) view objects) c.kind-kind.ensures
    ∙ ap (λ (v : FieldValue). passed_of_view (shows (kind_at m f) f v) view objects) key in
    subst (AreOfValue m view c.args.scope f c.args.key.now given) (sym c.made.ensures)
    (of_text m view c.args.scope f c.args.key.now given objects those (λ o. c.documents_show_values.ensures.shown m f o c.requires.field.0 c.requires.field.1) own made)

pub returns-clause-long : goal.returns-clause-long
returns-clause-long c = subst (AreLong c.args.entries.now) (sym c.made-in-Number.ensures) c.in_ok-those-in-Number.ensures.long

pub returns-clause-those : goal.returns-clause-those
returns-clause-those c = λ given is.
    let m = c.args.mapping.now in
    let view = c.args.entries.now in
    let f = c.args.field in
    let those = c.in_ok-those-in-Number.those in
    let own = subst (IsSeen m view c.args.scope given) (sym (c.as_ref-own.ensures ∙ c.in_ok-kept.ensures)) is in
    let z : ℤ = c.in-Number.number in
    let fits : SFits w64 z = search rules in
    subst (AreOfValue m view c.args.scope f c.args.key.now given) (sym c.made-in-Number.ensures)
    (subst (λ (v : FieldValue). AreOfValue m view c.args.scope f v given those) (sym c.in-Number.is)
    (subst (λ (number : ℤ). AreOfValue m view c.args.scope f (Number number) given those) (to_z-of_z w64 z fits)
    (of_term m view c.args.scope f (Number (to_z w64 (of_z w64 z))) given those (no_text (kind_at m f) c.requires.field.1) (c.in_ok-those-in-Number.ensures.seen given own))))
