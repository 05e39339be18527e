use Rattle.std.proofs.Common.{◌≡◌, ◌<◌, ◌==◌, length, false, sym, subst, ap, Some, arith}
use Rattle.std.proofs.lemmas.Bool.Decides.{nat_tests}
use Rattle.mapping.specs.Mapping.{Mapping, mapping_of}
use Rattle.mapping.proofs.LookUps.{scope_kept}
use Rattle.mapping.proofs.mapping.Mapping.around.Goals as goal

pub returns-else-scope-eq0 : goal.returns-else-scope-eq0
returns-else-scope-eq0 c =
    let nested : (c.args.scope == 0) ≡ false = grind (arith, nat_tests) in
    let kept = scope_kept c.self.inside.scopes.items (mapping_of c.self.inside.bodies c.self.inside.dynamic).scopes c.args.scope c.index.result.now c.self.invariant.scopes (subst (λ (m : Mapping). c.args.scope < length m.scopes) (sym c.self.view_is) c.requires) c.index.ensures in
    rw (← c.self.view_is, nested) (ap (λ s. Some s.around) (sym kept))
