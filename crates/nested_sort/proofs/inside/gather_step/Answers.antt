use Rattle.doc_values.specs.Values.{values_of}
use Rattle.query_eval.specs.Folds.{scopes_in}
use Rattle.view_objects.specs.Hits.{start_before}
use Rattle.nested_sort.specs.Inside.{marked_within, passing}
use Rattle.nested_sort.proofs.Ways.{none_within, nothing_found}
use Rattle.nested_sort.proofs.inside.gather_step.Goals as goal

pub returns-in-None : goal.returns-in-None
returns-in-None g c =
    let flags = passing c.args.place (scopes_in c.args.segment.now) c.args.step.now.scope c.args.step.now.filter c.args.filters.now in
    let start = start_before c.args.scope c.args.doc (scopes_in c.args.segment.now) in
    nothing_found (λ inside. values_of inside c.args.column.now) c.args.values.now.items (marked_within start c.args.doc flags) (none_within start c.args.doc flags c.in-None.ensures.none)
