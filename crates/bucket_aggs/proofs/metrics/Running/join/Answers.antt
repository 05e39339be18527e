use Rattle.std.proofs.Common.{◌∙◌, ℤ, arith, rules, w64}
use Rattle.std.proofs.lemmas.Int.{ints, to_z-of_z}
use mir.Val.{SFits, of_z, to_z}
use mir.Syntax.{w128}
use Rattle.bucket_aggs.specs.Sums.{no_numbers}
use Rattle.bucket_aggs.proofs.Sums.{added_more}
use Rattle.bucket_aggs.proofs.metrics.Running.join.Goals as goal

pub returns : goal.returns
returns c = λ zs others was own.
    let old = c.args.self.now in
    let sum : ℤ = c.in-Some-checked_add.total in
    let all : SFits w128 sum = search rules in
    let sofar : SFits w128 old.total = search rules in
    let more : SFits w128 c.args.own.total = search rules in
    let low : SFits w64 c.args.own.least = search rules in
    let high : SFits w64 c.args.own.greatest = search rules in
    added_more no_numbers old (record { count = c.in-Some.count; total = to_z w128 (of_z w128 sum); least = to_z w64 (of_z w64 c.args.own.least); greatest = to_z w64 (of_z w64 c.args.own.greatest) }) zs others was own.fit (omega (arith, c.in-Some.ensures.1, own.count))
    (omega (arith, ints, to_z-of_z w128 sum all, to_z-of_z w128 old.total sofar, to_z-of_z w128 c.args.own.total more, c.in-Some-checked_add.ensures.1, own.total))
    (to_z-of_z w64 c.args.own.least low ∙ own.least) (to_z-of_z w64 c.args.own.greatest high ∙ own.greatest)
