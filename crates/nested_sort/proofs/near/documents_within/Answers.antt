use Rattle.std.proofs.Common.{FitsSigned, w64, rules, ap, ◌∙◌}
use Rattle.std.proofs.lemmas.Int.{to_z-of_z}
use Rattle.term_table.specs.Keys.{number_key}
use Rattle.nested_sort.proofs.Nearby.{out_behind, out_free}
use Rattle.nested_sort.proofs.near.documents_within.Goals as goal

pub returns-in_ok-documents_up_to-in-None-clause-left : goal.returns-in_ok-documents_up_to-in-None-clause-left
returns-in_ok-documents_up_to-in-None-clause-left c = λ doc low out.
    let fits : FitsSigned w64 c.args.reach.limit = search rules in
    out_free c.keys_are_ordered.ensures c.args.segment.now c.args.field doc c.args.reach (c.values_are_of_documents.ensures.fit doc) fits c.as_slice.result (c.as_slice.ensures ∙ c.number_key-limit.ensures ∙ ap number_key (to_z-of_z w64 c.args.reach.limit fits))
    c.in-None.is (c.in_ok-documents_up_to-in-None.ensures.left doc low out)

pub returns-in_ok-documents_up_to-in-Some-clause-left : goal.returns-in_ok-documents_up_to-in-Some-clause-left
returns-in_ok-documents_up_to-in-Some-clause-left c = λ doc low out.
    let fits : FitsSigned w64 c.args.reach.limit = search rules in
    let after_fits : FitsSigned w64 c.in-Some.after = search rules in
    out_behind c.keys_are_ordered.ensures c.args.segment.now c.args.field doc c.args.reach (c.values_are_of_documents.ensures.fit doc) fits c.as_slice.result (c.as_slice.ensures ∙ c.number_key-limit.ensures ∙ ap number_key (to_z-of_z w64 c.args.reach.limit fits))
    c.in-Some.after after_fits c.as_slice-in-Some.result (c.as_slice-in-Some.ensures ∙ c.number_key-key.ensures ∙ ap number_key (to_z-of_z w64 c.in-Some.after after_fits)) c.in-Some.is (c.in_ok-documents_up_to-in-Some.ensures.left doc low out)
