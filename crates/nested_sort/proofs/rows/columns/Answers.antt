use Rattle.std.proofs.Common.{ap, sym, subst, ◌∙◌}
use Rattle.nested_sort.specs.Documents.{AllLong, all_keys}
use Rattle.nested_sort.specs.Filters.{filters_of}
use Rattle.nested_sort.proofs.Keying.{are_keyed, long_found}
use Rattle.nested_sort.proofs.rows.columns.Goals as goal

pub clause_columns-requires-clause-found : goal.clause_columns-requires-clause-found
clause_columns-requires-clause-found c =
    subst (λ view. AllLong view c.args.filters.now) (sym c.entries.ensures.entries) (long_found c.args.mapping.now c.args.view.now (filters_of c.args.sorts.now) c.args.filters.now c.requires.filters)

pub returns-clause-keys : goal.returns-clause-keys
returns-clause-keys c = λ trees stand are.
    are_keyed c.args.mapping.now
    (λ is n p owner given ts place doc score above hit. c.hits_are_objects.ensures.inside c.args.mapping.now n p owner given ts place doc score is above hit)
    c.args.view.now trees stand
    (λ columns bits ts own. c.documents_are_of_objects.ensures.scopes c.args.mapping.now columns bits ts own)
    c.args.sorts.now c.args.scope c.args.filters.now c.args.hits.now c.in_ok-clause_columns.field-0.items c.requires.hits are c.requires.sorts c.requires.filters
    (c.in_ok-clause_columns.ensures.keys
    ∙ ap (λ view. all_keys c.args.mapping.now view c.args.hits.now c.args.scope c.as_slice.result.now c.args.filters.now) c.entries.ensures.entries
    ∙ ap (λ sorts. all_keys c.args.mapping.now c.args.view.now c.args.hits.now c.args.scope sorts c.args.filters.now) c.as_slice.ensures)
