use Rattle.std.proofs.Common.{◌≡◌, sym, subst, arith}
use Rattle.std.proofs.lemmas.Grind.{common_steps}
use Rattle.segment_view.specs.Views.{IsView}
use Rattle.segment_view.proofs.view.View.pin.Goals as goal

pub invariant_of-result : goal.invariant_of-result
invariant_of-result c =
    let all : c.entries.entries.items ≡ c.self.inside.entries.items = grind (arith, common_steps) in
    subst IsView (sym all) c.self.invariant
