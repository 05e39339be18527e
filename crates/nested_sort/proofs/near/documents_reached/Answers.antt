use Rattle.std.proofs.Common.{ℕ, List, subst}
use Rattle.std.specs.List.{flat_map}
use Rattle.query_eval.specs.Folds.{scopes_in}
use Rattle.nested_sort.specs.Documents.{numbers_at}
use Rattle.nested_sort.specs.Near.{AreOut}
use Rattle.nested_sort.proofs.Nearby.{some_more}
use Rattle.nested_sort.proofs.Ways.{one_step, single}
use Rattle.nested_sort.proofs.near.documents_reached.Goals as goal

pub returns-in_ok-documents_above-in-len1-clause-left : goal.returns-in_ok-documents_above-in-len1-clause-left
returns-in_ok-documents_above-in-len1-clause-left c =
    some_more (λ set held doc low out.
    subst (λ (docs : List ℕ). AreOut c.args.reach (flat_map (numbers_at c.args.segment.now c.args.asked.now.field) docs))
    (one_step c.args.place (scopes_in c.args.segment.now) c.step-item.result c.args.asked.now.chain.now c.args.asked.now.filters.now c.args.asked.now.scope doc
    (single c.args.asked.now.chain.now c.step-item.result c.in-len1.len_at_least c.in-len1.len_below c.step-item.is))
    (held doc low out))
    c.in_ok-documents_above-in-len1.field-0 c.in_ok-documents_above-in-len1.ensures.left
