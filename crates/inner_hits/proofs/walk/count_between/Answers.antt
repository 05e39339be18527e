use Rattle.std.proofs.Common.{arith, length, ap, ◌∙◌, List, Bool}
use Rattle.nested_sort.proofs.Scopes.{documents_long}
use Rattle.inner_hits.proofs.walk.count_between.Goals as goal

pub next_set_before-requires : goal.next_set_before-requires
next_set_before-requires c = omega (arith, c.requires, ap (λ (l : List Bool). length l) c.in-Some.ensures.some ∙ documents_long c.args.segment.now c.args.scope)
