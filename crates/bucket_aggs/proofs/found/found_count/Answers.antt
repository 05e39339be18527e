use Rattle.std.proofs.Common.{ℕ, List, Option, sum_by, ap, ◌∙◌}
use Rattle.bucket_aggs.specs.Counts.{marked_count}
use Rattle.bucket_aggs.proofs.Rooted.{hits_counted}
use Rattle.bucket_aggs.proofs.found.found_count.Goals as goal

pub returns : goal.returns
returns c = λ query trees found stand.
    let m = c.args.mapping.now in
    hits_counted m c.args._view.now query c.args.hits.now c.in_ok-count_of.field-0 (λ all. c.hits_are_objects.ensures.roots m all c.scope_count-scopes.ensures.is_mapping) found trees stand
    (c.in_ok-count_of.ensures ∙ ap (λ (l : List (List (Option ℕ))). sum_by marked_count l) c.of-objects.ensures)
