use Rattle.std.proofs.Common.{◌++◌, ap, ◌∙◌}
use Rattle.std.specs.List.{flat_map}
use Rattle.doc_values.specs.Values.{values_of}
use Rattle.query_eval.specs.Folds.{scopes_in}
use Rattle.nested_sort.proofs.Ways.{one_step, single}
use Rattle.nested_sort.proofs.inside.gather.Goals as goal

pub returns-in_ok-gather_step-in-len1 : goal.returns-in_ok-gather_step-in-len1
returns-in_ok-gather_step-in-len1 g c =
    c.in_ok-gather_step-in-len1.ensures
    ∙ ap (λ docs. c.args.values.now.items ++ flat_map (λ inside. values_of inside c.args.column.now) docs)
    (one_step c.args.place (scopes_in c.args.segment.now) c.step-item.result c.args.chain.now c.args.filters.now c.args.scope c.args.doc
    (single c.args.chain.now c.step-item.result c.in-len1.len_at_least c.in-len1.len_below c.step-item.is))
