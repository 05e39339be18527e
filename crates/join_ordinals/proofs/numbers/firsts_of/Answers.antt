use Rattle.std.proofs.Common.{ℕ, ◌≡◌, ◌<◌, get_or, length, arith, subst, ◌∙◌}
use Rattle.std.proofs.lemmas.List.{length-set}
use Rattle.join_ordinals.specs.Numbers.{IsHead}
use Rattle.join_ordinals.proofs.Grouping.{first_set, no_met}
use Rattle.join_ordinals.proofs.numbers.firsts_of.Goals as goal

pub met-preserved : goal.met-preserved
met-preserved c =
    let met = c.args.met.now in
    let at = c.met.at in
    let head = c.head_at-head.result in
    let below : at < length met = omega (arith, c.met-test.true) in (
      length-set c.met.firsts.items (get_or met at no_met).place (get_or met head no_met).place ∙ c.met.invariant.0,
      omega (arith, c.head_at-head.ensures.up),
      λ before is. let same : at ≡ before = omega (arith, is) in subst (λ (n : ℕ). IsHead met n head) same c.head_at-head.ensures,
      first_set met c.met.firsts.items at head c.requires below c.met.invariant.0 c.head_at-head.ensures c.met.invariant.3,
    )
