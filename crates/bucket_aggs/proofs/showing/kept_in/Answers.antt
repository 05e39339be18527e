use Rattle.std.proofs.Common.{◌≡◌, ◌+◌, ◌&&◌, ℕ, false, length, map, get_or, Some, is_some, sym, ap, ◌∙◌, arith}
use Rattle.block_join.specs.Merge.{paired, put_together}
use Rattle.block_join.specs.declared.rule.Rule.TheVariants.{Kept}
use Rattle.bucket_aggs.proofs.Cuts.{filled_passed, kept_passed, length_filled}
use Rattle.bucket_aggs.proofs.showing.kept_in.Goals as goal

pub merged-requires : goal.merged-requires
merged-requires c = sym c.requires ∙ sym (ap length c.same-in-None.ensures ∙ length_filled (Some 1) c.args.set)

pub returns-in-Some : goal.returns-in-Some
returns-in-Some c = λ test each.
    c.same.ensures
    ∙ filled_passed c.in-Some.score test 0 c.args.hits.now c.args.set c.requires c.in-Some.ensures.alike
    (λ k low. let here : k ≡ 0 + k = omega arith in each k low ∙ ap (λ (i : ℕ). get_or (map is_some c.args.hits.now) k false && test i) here)

pub returns-in_ok-merged-in-None : goal.returns-in_ok-merged-in-None
returns-in_ok-merged-in-None c = λ test each.
    c.in_ok-merged-in-None.ensures.scores
    ∙ ap (paired (put_together Kept) c.args.hits.now) c.same-in-None.ensures
    ∙ kept_passed test 0 c.args.hits.now c.args.set c.requires
    (λ k low. let here : k ≡ 0 + k = omega arith in each k low ∙ ap (λ (i : ℕ). get_or (map is_some c.args.hits.now) k false && test i) here)
