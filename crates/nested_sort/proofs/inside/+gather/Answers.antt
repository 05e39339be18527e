use Rattle.std.proofs.Common.{◌++◌, ap, sym, ◌∙◌}
use Rattle.std.specs.List.{flat_map}
use Rattle.doc_values.specs.Values.{values_of}
use Rattle.query_eval.specs.Folds.{scopes_in}
use Rattle.nested_sort.specs.Inside.{chain_docs}
use Rattle.nested_sort.proofs.Marked.{added_more, added_none}
use Rattle.nested_sort.proofs.Ways.{first_none, first_taken}
use Rattle.nested_sort.proofs.inside.+gather.Goals as goal

pub gather_down-returns-in-None : goal.gather_down-returns-in-None
gather_down-returns-in-None g t c =
    first_none (λ inside. values_of inside c.args.column.now) c.args.values.now.items c.args.place (scopes_in c.args.segment.now) c.step-item.result c.args.chain.now c.args.filters.now c.args.scope c.args.doc
    c.in-len1-up.len_at_least c.step-item.is c.in-None.ensures.none

pub gather_down-returns-in_ok-gather_in-in-Some : goal.gather_down-returns-in_ok-gather_in-in-Some
gather_down-returns-in_ok-gather_in-in-Some g t c =
    c.in_ok-gather_in-in-Some.ensures
    ∙ ap (λ docs. c.args.values.now.items ++ flat_map (λ inside. values_of inside c.args.column.now) docs)
    (first_taken c.args.place (scopes_in c.args.segment.now) c.step-item.result c.args.chain.now c.args.filters.now c.filters_left.result.now c.args.scope c.args.doc c.start_of.result c.in-Some.passing.now
    c.in-len1-up.len_at_least c.step-item.is c.start_of.ensures c.filters_left.ensures.left c.in-Some.ensures.some)

pub gather_in-inside-preserved : goal.gather_in-inside-preserved
gather_in-inside-preserved g t c =
    added_more (λ inside. values_of inside c.args.column.now) (chain_docs c.args.place (scopes_in c.args.segment.now) c.args.rest.now c.args.filters.now c.args.scope) c.inside.from c.args.end c.in-Some.doc c.args.passing.now c.inside.values.items c.gather_down.new.values.items _
    (sym c.next_set_before.ensures.value ∙ c.in-Some.is) c.inside.invariant c.in_ok-gather_down.ensures

pub gather_in-returns : goal.gather_in-returns
gather_in-returns g t c =
    added_none (λ inside. values_of inside c.args.column.now) (chain_docs c.args.place (scopes_in c.args.segment.now) c.args.rest.now c.args.filters.now c.args.scope) c.inside.from c.args.end c.args.passing.now c.inside.values.items _
    (sym c.next_set_before.ensures.value ∙ c.in_default.is) c.inside.invariant
