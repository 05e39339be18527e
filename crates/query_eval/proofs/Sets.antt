-- Scores that are put together by sets.
use Rattle.std.proofs.Common.{◌≡◌, ℕ, suc, ◌+◌, Bool, true, false, List, [], ◌∷◌, length, map, Option, Some, None, is_none, is_some, refl, sym, ap, ◌∙◌, arith}
use Rattle.std.specs.List.{position_from}
use Rattle.block_bits.specs.Flags.{difference, intersection, is_marked}
use Rattle.block_join.specs.Merge.{paired, put_together}
use Rattle.block_join.specs.Scores.{filled}
use Rattle.block_join.specs.declared.rule.Rule.TheVariants.{Both, Kept, Without}
use Rattle.score_math.specs.Scores.{capped}
use Rattle.query_eval.specs.Folds.{have_none}
use Rattle.query_eval.proofs.Entries.{Scores}

kept_flags : (a : ℕ) (flags : List Bool) (others : Scores) → filled (Some a) (intersection flags (map is_some others)) ≡ paired (put_together Kept) (filled (Some a) flags) others
kept_flags a [] others = refl
kept_flags a (flag ∷ flags) [] = refl
kept_flags a (true ∷ flags) (None ∷ others) = ap (λ (l : Scores). None ∷ l) (kept_flags a flags others)
kept_flags a (true ∷ flags) (Some b ∷ others) = ap (λ (l : Scores). Some a ∷ l) (kept_flags a flags others)
kept_flags a (false ∷ flags) (x ∷ others) = ap (λ (l : Scores). None ∷ l) (kept_flags a flags others)

without_flags : (a : ℕ) (flags : List Bool) (others : Scores) → filled (Some a) (difference flags (map is_some others)) ≡ paired (put_together Without) (filled (Some a) flags) others
without_flags a [] others = refl
without_flags a (flag ∷ flags) [] = refl
without_flags a (true ∷ flags) (None ∷ others) = ap (λ (l : Scores). Some a ∷ l) (without_flags a flags others)
without_flags a (true ∷ flags) (Some b ∷ others) = ap (λ (l : Scores). None ∷ l) (without_flags a flags others)
without_flags a (false ∷ flags) (x ∷ others) = ap (λ (l : Scores). None ∷ l) (without_flags a flags others)

both_flags : (a b : ℕ) (flags others : List Bool) → filled (Some (capped (a + b))) (intersection flags others) ≡ paired (put_together Both) (filled (Some a) flags) (filled (Some b) others)
both_flags a b [] others = refl
both_flags a b (flag ∷ flags) [] = refl
both_flags a b (true ∷ flags) (true ∷ others) = ap (λ (l : Scores). Some (capped (a + b)) ∷ l) (both_flags a b flags others)
both_flags a b (true ∷ flags) (false ∷ others) = ap (λ (l : Scores). None ∷ l) (both_flags a b flags others)
both_flags a b (false ∷ flags) (x ∷ others) = ap (λ (l : Scores). None ∷ l) (both_flags a b flags others)

module _ (ones others : Scores) (a : ℕ) (alike : ones ≡ filled (Some a) (map is_some ones)) where
  pub kept_sets : filled (Some a) (intersection (map is_some ones) (map is_some others)) ≡ paired (put_together Kept) ones others
  kept_sets = kept_flags a (map is_some ones) others ∙ ap (λ (l : Scores). paired (put_together Kept) l others) (sym alike)

  pub without_sets : filled (Some a) (difference (map is_some ones) (map is_some others)) ≡ paired (put_together Without) ones others
  without_sets = without_flags a (map is_some ones) others ∙ ap (λ (l : Scores). paired (put_together Without) l others) (sym alike)

  pub both_sets : (b : ℕ) → others ≡ filled (Some b) (map is_some others) → filled (Some (capped (a + b))) (intersection (map is_some ones) (map is_some others)) ≡ paired (put_together Both) ones others
  both_sets b same =
      both_flags a b (map is_some ones) (map is_some others)
      ∙ ap (λ (l : Scores). paired (put_together Both) l (filled (Some b) (map is_some others))) (sym alike)
      ∙ ap (paired (put_together Both) ones) (sym same)

-- ---- no score at all

pub none_marked : (start : ℕ) (scores : Scores) → is_none (position_from is_marked start (map is_some scores)) ≡ have_none scores
none_marked start [] = refl
none_marked start (None ∷ scores) = none_marked (start + 1) scores
none_marked start (Some s ∷ scores) = refl

pub paired_long : (f : Option ℕ → Option ℕ → Option ℕ) (ones others : Scores) → length ones ≡ length others → length (paired f ones others) ≡ length ones
paired_long f [] others same = refl
paired_long f (a ∷ ones) [] same = absurd (omega (arith, same))
paired_long f (a ∷ ones) (b ∷ others) same = ap suc (paired_long f ones others (omega (arith, same)))
