use Rattle.std.proofs.Common.{◌∙◌, ℤ, refl, sym, ap, rules, w64}
use Rattle.std.proofs.lemmas.Int.{to_z-of_z}
use mir.Val.{SFits, of_z, to_z}
use mir.Syntax.{w128}
use Rattle.bucket_aggs.specs.Sums.{below}
use Rattle.bucket_aggs.proofs.Sums.{summary_none, summary_some}
use Rattle.bucket_aggs.proofs.metrics.Running.summary.Goals as goal

pub returns-then-is_below : goal.returns-then-is_below
returns-then-is_below c = λ zs was.
    let now = c.args.self.now in
    let all : SFits w128 now.total = search rules in
    let low : SFits w64 now.least = search rules in
    let high : SFits w64 now.greatest = search rules in
    summary_none now _ refl _ (to_z-of_z w128 now.total all) zs was
    (ap (λ (z : ℤ). below z now.least) (sym (to_z-of_z w64 now.greatest high)) ∙ ap (below (to_z w64 (of_z w64 now.greatest))) (sym (to_z-of_z w64 now.least low)) ∙ sym c.is_below.ensures ∙ c.if-is_below.true)

pub returns : goal.returns
returns c = λ zs was.
    let now = c.args.self.now in
    let all : SFits w128 now.total = search rules in
    let low : SFits w64 now.least = search rules in
    let high : SFits w64 now.greatest = search rules in
    summary_some now _ refl _ (to_z-of_z w128 now.total all) zs _ _ (to_z-of_z w64 now.least low) (to_z-of_z w64 now.greatest high) was
    (ap (λ (z : ℤ). below z now.least) (sym (to_z-of_z w64 now.greatest high)) ∙ ap (below (to_z w64 (of_z w64 now.greatest))) (sym (to_z-of_z w64 now.least low)) ∙ sym c.is_below.ensures ∙ c.if-is_below.false)
