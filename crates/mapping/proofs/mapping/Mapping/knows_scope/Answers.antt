use Rattle.std.proofs.Common.{◌≡◌, ◌<◌, length, sym, subst, ap, nat_le}
use Rattle.mapping.specs.Mapping.{Mapping, mapping_of}
use Rattle.mapping.proofs.LookUps.{scope_kept}
use Rattle.mapping.proofs.mapping.Mapping.knows_scope.Goals as goal

pub returns : goal.returns
returns c =
    let kept = scope_kept c.self.inside.scopes.items (mapping_of c.self.inside.bodies c.self.inside.dynamic).scopes c.args.scope c.index.result.now c.self.invariant.scopes (subst (λ (m : Mapping). c.args.scope < length m.scopes) (sym c.self.view_is) c.requires) c.index.ensures in
    rw (← c.self.view_is) (ap (λ s. nat_le s.since c.args.generation) (sym kept))
