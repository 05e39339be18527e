use Rattle.std.proofs.Common.{None, Option, ap, set, ℕ, ◌∙◌}
use Rattle.join_ordinals.specs.Rows.{renumbered}
use Rattle.join_ordinals.proofs.Renumbering.{step_at}
use Rattle.join_ordinals.proofs.rows.renumber_row.Goals as goal

pub places-preserved : goal.places-preserved
places-preserved c =
    ap (λ (number : Option ℕ). set c.places.place-items c.places.place-index number) c.number_of.ensures
    ∙ step_at (renumbered c.args.numbers.now) c.args.row.now.items c.places.place-items c.places.place-index None c.places.invariant
