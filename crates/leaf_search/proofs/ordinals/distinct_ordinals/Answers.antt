use Rattle.std.proofs.Common.{ap, sym, subst, ◌∙◌, nat_eq}
use Rattle.std.specs.List.{list_any}
use Rattle.std.specs.List.Sorted.{IsStrictlyIncreasing}
use Rattle.std.proofs.lemmas.Bool.{eqb-true}
use Rattle.std.proofs.lemmas.List.Filters.{dedup_is}
use Rattle.std.proofs.lemmas.List.Sorted.{list_any-IsPermutation}
use Rattle.std.proofs.lemmas.Map.Keys.{IsStrictlyIncreasing-dedup}
use Rattle.leaf_search.proofs.Once.{any-dedup}
use Rattle.leaf_search.proofs.ordinals.distinct_ordinals.Goals as goal

pub returns-clause-same : goal.returns-clause-same
returns-clause-same c = λ test.
    ap (list_any test) (dedup_is _ _ _ c.dedup.ensures.filtered)
    ∙ any-dedup nat_eq test (λ x y e. ap test (eqb-true x y e)) _
    ∙ sym (list_any-IsPermutation test _ _ c.sort_unstable.ensures.permutation)

pub returns-clause-ascending : goal.returns-clause-ascending
returns-clause-ascending c = subst IsStrictlyIncreasing (sym (dedup_is _ _ _ c.dedup.ensures.filtered)) (IsStrictlyIncreasing-dedup _ c.sort_unstable.ensures.sorted)
