use Rattle.std.proofs.Common.{sym, ap, subst, ◌∙◌}
use Rattle.block_join.specs.Sums.{IsSum, summed}
use Rattle.block_join.proofs.Totals.{shown_sum, sums_capped}
use Rattle.block_join.proofs.scored.Scored.of_parts.Goals as goal

pub invariant_of-result : goal.invariant_of-result
invariant_of-result c = record { kept = subst (IsSum c.args.set) (sym c.in_ok-parts.ensures.ok) c.requires; capped = λ k below. sums_capped c.in_ok-parts.parts.value k }

pub returns : goal.returns
returns c = shown_sum c.args.set c.in_ok-parts.parts.value (subst (IsSum c.args.set) (sym c.in_ok-parts.ensures.ok) c.requires) ∙ ap summed c.in_ok-parts.ensures.ok
