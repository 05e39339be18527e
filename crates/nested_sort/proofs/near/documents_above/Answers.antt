use Rattle.std.proofs.Common.{Bool, List, ap, length, subst, sym, ◌∙◌}
use Rattle.std.specs.List.{flat_map}
use Rattle.query_eval.specs.Folds.{scopes_in}
use Rattle.view_objects.specs.Hits.{start_before}
use Rattle.nested_sort.specs.Documents.{numbers_at}
use Rattle.nested_sort.specs.Inside.{marked_within}
use Rattle.nested_sort.specs.Near.{AreOut}
use Rattle.nested_sort.proofs.Above.{out_above}
use Rattle.nested_sort.proofs.Nearby.{cut_long}
use Rattle.nested_sort.proofs.near.documents_above.Goals as goal

pub documents_around-requires : goal.documents_around-requires
documents_around-requires c =
    ap length c.and.ensures
    ∙ cut_long c.in_ok-inner.inner c.in-Some.passing.now (c.in_ok-inner.ensures.long ∙ sym c.in-Some.ensures.long)
    ∙ c.in-Some.ensures.long ∙ sym c.in-Some-scope_documents.ensures.long

pub returns-clause-left : goal.returns-clause-left
returns-clause-left c = λ doc low out.
    let columns = c.args.segment.now in
    subst (λ (flags : List Bool). AreOut c.args.reach (flat_map (numbers_at columns c.args.asked.now.field) (marked_within (start_before c.args.asked.now.scope doc (scopes_in columns)) doc flags))) c.in-Some.ensures.some
    (out_above columns c.args.asked.now.field c.args.asked.now.scope doc c.args.reach c.in-Some-scope_documents.parents.now c.in_ok-inner.inner c.in-Some.passing.now c.and.new.self c.in_ok-documents_around.field-0
    c.in-Some-scope_documents.ensures.some c.and.ensures c.in_ok-documents_around.ensures c.in_ok-inner.ensures.left low out)
