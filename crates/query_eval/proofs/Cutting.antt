-- Hits cut to those at which a leaf holds.
use Rattle.std.proofs.Common.{◌≡◌, ℕ, Bool, true, false, cond, List, [], ◌∷◌, map, Option, Some, None, is_some, refl, sym, ap, ◌∙◌}
use Rattle.std.specs.Prelude.{IsSome}
use Rattle.block_bits.specs.Flags.{intersection}
use Rattle.block_join.specs.Merge.{paired, put_together}
use Rattle.block_join.specs.Scores.{filled}
use Rattle.block_join.specs.declared.rule.Rule.TheVariants.{Kept}
use Rattle.leaf_search.specs.Found.{leaf_of}
use Rattle.mapping.specs.Mapping.{Mapping}
use Rattle.query_ast.specs.Clause.{Clause, Leaf, leaf, bool, constant_score, dis_max, nested, to_child, has_child, has_parent}
use Rattle.query_ast.specs.Leaf.{leaf_holds}
use Rattle.query_ast.specs.Resolved.{IsLeaf, IsResolved}
use Rattle.segment.specs.Live.{EntryState}
use Rattle.tree_objects.specs.Object.{Object}
use Rattle.tree_objects.specs.Tree.{Tree}
use Rattle.query_eval.specs.Folds.{leaf_score, paired_by, whatever}
use Rattle.query_eval.specs.Found.{IsSeen, score_by}
use Rattle.query_eval.proofs.Entries.{Scores}
use Rattle.query_eval.proofs.Seen.{seen_alike}

-- the second set cut to the first, in place
cut_flags : (a : ℕ) (marks flags : List Bool) → filled (Some a) (intersection flags marks) ≡ paired (put_together Kept) (filled (Some a) marks) (filled (Some 1) flags)
cut_flags a [] [] = refl
cut_flags a [] (flag ∷ flags) = refl
cut_flags a (mark ∷ marks) [] = refl
cut_flags a (true ∷ marks) (true ∷ flags) = ap (λ (l : Scores). Some a ∷ l) (cut_flags a marks flags)
cut_flags a (true ∷ marks) (false ∷ flags) = ap (λ (l : Scores). None ∷ l) (cut_flags a marks flags)
cut_flags a (false ∷ marks) (true ∷ flags) = ap (λ (l : Scores). None ∷ l) (cut_flags a marks flags)
cut_flags a (false ∷ marks) (false ∷ flags) = ap (λ (l : Scores). None ∷ l) (cut_flags a marks flags)

pub cut_sets : (ones : Scores) (a : ℕ) → ones ≡ filled (Some a) (map is_some ones) → (flags : List Bool) → filled (Some a) (intersection flags (map is_some ones)) ≡ paired (put_together Kept) ones (filled (Some 1) flags)
cut_sets ones a alike flags = cut_flags a (map is_some ones) flags ∙ ap (λ (l : Scores). paired (put_together Kept) l (filled (Some 1) flags)) (sym alike)

-- hits cut to those of a leaf, whatever score it gives
kept_if : (first : Option ℕ) (held : Bool) (a b : ℕ) → put_together Kept first (cond held (Some a) None) ≡ put_together Kept first (cond held (Some b) None)
kept_if None held a b = refl
kept_if (Some s) true a b = refl
kept_if (Some s) false a b = refl

module _ (m : Mapping) (view : List EntryState) (n : ℕ) where
  pub kept_of_leaf : (c : Clause) (given : List Tree → Object → Option ℕ) (made : List Scores) → IsSome (leaf_of c) → IsResolved m n c → ((l : Leaf) → leaf_of c ≡ Some l → IsLeaf m l → IsSeen m view n (paired_by Kept given (whatever (leaf_score m l 1))) made)
      → IsSeen m view n (paired_by Kept given (score_by m c)) made
  kept_of_leaf (leaf l boost) given made some resolved seen =
      seen_alike m view n (paired_by Kept given (whatever (leaf_score m l 1))) (paired_by Kept given (score_by m (leaf l boost))) made
      (λ live o here. kept_if (given live o) (leaf_holds m l o) 1 boost) (seen l refl resolved.0)
  kept_of_leaf (bool must filter should must_not least) given made some resolved seen = absurd (let no : ⊥ = cc in no)
  kept_of_leaf (constant_score c boost) given made some resolved seen = absurd (let no : ⊥ = cc in no)
  kept_of_leaf (dis_max cs) given made some resolved seen = absurd (let no : ⊥ = cc in no)
  kept_of_leaf (nested p c mode) given made some resolved seen = absurd (let no : ⊥ = cc in no)
  kept_of_leaf (to_child p c) given made some resolved seen = absurd (let no : ⊥ = cc in no)
  kept_of_leaf (has_child r c mode least most) given made some resolved seen = absurd (let no : ⊥ = cc in no)
  kept_of_leaf (has_parent p c scored boost) given made some resolved seen = absurd (let no : ⊥ = cc in no)
