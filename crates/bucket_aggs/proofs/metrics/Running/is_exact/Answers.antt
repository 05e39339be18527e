use Rattle.std.proofs.Common.{◌≤◌, ◌<◌, ◌*◌, ◌^◌, ℕ, arith, rules, w64}
use Rattle.std.specs.Prelude.{unsigned_abs}
use Rattle.std.proofs.lemmas.Bool.Decides.{nat_tests}
use Rattle.std.proofs.lemmas.Int.{to_z-of_z}
use mir.Val.{SFits}
use Rattle.bucket_aggs.proofs.Wrapped.{exact}
use Rattle.bucket_aggs.proofs.metrics.Running.is_exact.Goals as goal

pub returns-in-Some : goal.returns-in-Some
returns-in-Some c = λ small start zs new was.
    let now = c.args.self.now in
    let far : ℕ = c.max-far.result in
    let lowest : SFits w64 now.least = search rules in
    let highest : SFits w64 now.greatest = search rules in
    let upto : c.in-Some.most ≤ 9223372036854775807 = grind (arith, nat_tests, small) in
    let low : unsigned_abs now.least ≤ far = grind (arith, to_z-of_z, c.unsigned_abs.ensures.value, c.max-far.ensures) in
    let high : unsigned_abs now.greatest ≤ far = grind (arith, to_z-of_z, c.unsigned_abs-2.ensures.value, c.max-far.ensures) in
    let bound : now.count * far < 2 ^ 63 = omega (arith, upto, c.in-Some.ensures.1) in
    exact start now zs far low high bound new was
