use Rattle.std.proofs.Common.{ℕ, Bool, List, bytes_eq, ap, sym, ◌∙◌}
use Rattle.std.specs.List.{list_any}
use Rattle.std.proofs.lemmas.List.Filters.{dedup_is}
use Rattle.std.proofs.lemmas.List.Sorted.{list_any-IsPermutation}
use Rattle.std.proofs.lemmas.Slice.Eq.{bytes_eq-Decides}
use denote.Ref.{Bor}
use Rattle.leaf_search.proofs.Once.{any-dedup}
use Rattle.leaf_search.proofs.distinct.distinct.Goals as goal

pub returns : goal.returns
returns c = λ test.
    let p : Bor (List ℕ) → Bool = λ (term : Bor (List ℕ)). test term.now in
    let same : Bor (List ℕ) → Bor (List ℕ) → Bool = λ x y. bytes_eq x.now y.now in
    ap (list_any p) (dedup_is _ _ _ c.dedup.ensures.filtered)
    ∙ any-dedup same p (λ x y e. ap test ((bytes_eq-Decides x.now y.now).0 e)) _
    ∙ sym (list_any-IsPermutation p _ _ c.sort_unstable.ensures.permutation)
