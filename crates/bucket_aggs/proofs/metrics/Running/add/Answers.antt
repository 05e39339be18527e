use Rattle.std.proofs.Common.{◌≡◌, ◌∙◌, ℤ, ◌+ℤ◌, [], ◌∷◌, ap, arith, rules, w64}
use Rattle.std.proofs.lemmas.Int.{ints, to_z-of_z}
use mir.Val.{SFits, of_z, to_z}
use mir.Syntax.{w128}
use Rattle.bucket_aggs.specs.Sums.{above, below, first_of}
use Rattle.bucket_aggs.proofs.Sums.{added_more}
use Rattle.bucket_aggs.proofs.metrics.Running.add.Goals as goal

pub returns-clause-added : goal.returns-clause-added
returns-clause-added c = λ start zs was.
    let old = c.args.self.now in
    let z : ℤ = c.args.number in
    let own : to_z w64 (of_z w64 z) ≡ z = to_z-of_z w64 z c.ranges.number in
    let low : SFits w64 c.lesser.result = search rules in
    let high : SFits w64 c.greater.result = search rules in
    let least : SFits w64 old.least = search rules in
    let greatest : SFits w64 old.greatest = search rules in
    let sofar : SFits w128 old.total = search rules in
    let more : SFits w128 c.from.result = search rules in
    let both : SFits w128 (to_z w128 (of_z w128 old.total) +ℤ to_z w128 (of_z w128 c.from.result)) =
    omega (arith, ints, c.requires.over, c.requires.under, to_z-of_z w128 old.total sofar, to_z-of_z w128 c.from.result more, c.from.ensures, own, c.ranges.number) in
    added_more start old _ zs (z ∷ []) was (c.ranges.number, tt) (omega arith)
    (omega (arith, ints, to_z-of_z w128 (to_z w128 (of_z w128 old.total) +ℤ to_z w128 (of_z w128 c.from.result)) both, to_z-of_z w128 old.total sofar, to_z-of_z w128 c.from.result more, c.from.ensures, own))
    (to_z-of_z w64 c.lesser.result low
    ∙ c.lesser.ensures
    ∙ ap (λ (l : ℤ). first_of below l (to_z w64 (of_z w64 z))) (to_z-of_z w64 old.least least)
    ∙ ap (first_of below old.least) own)
    (to_z-of_z w64 c.greater.result high
    ∙ c.greater.ensures
    ∙ ap (λ (l : ℤ). first_of above l (to_z w64 (of_z w64 z))) (to_z-of_z w64 old.greatest greatest)
    ∙ ap (first_of above old.greatest) own)
