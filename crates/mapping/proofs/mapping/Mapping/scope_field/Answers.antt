use Rattle.std.proofs.Common.{◌≡◌, ◌<◌, ◌==◌, ◌∙◌, length, false, sym, subst, ap, arith}
use Rattle.std.proofs.lemmas.Bool.Decides.{nat_tests}
use Rattle.mapping.specs.Mapping.{Mapping, mapping_of, field_named}
use Rattle.mapping.proofs.LookUps.{field_place, path_kept}
use Rattle.mapping.proofs.mapping.Mapping.scope_field.Goals as goal

pub returns-else-scope-eq0 : goal.returns-else-scope-eq0
returns-else-scope-eq0 c =
    let nested : (c.args.scope == 0) ≡ false = grind (arith, nat_tests) in
    let kept = path_kept c.self.inside.paths.items (mapping_of c.self.inside.bodies c.self.inside.dynamic).scopes c.args.scope c.index.result.now c.self.invariant.paths (subst (λ (m : Mapping). c.args.scope < length m.scopes) (sym c.self.view_is) c.requires) c.index.ensures in
    rw (← c.self.view_is, nested)
    (rw c.as_slice.ensures.value at c.field.ensures.number ∙ field_place c.self.inside.bodies c.self.inside.dynamic c.index.result.now.bytes.items ∙ ap (field_named (mapping_of c.self.inside.bodies c.self.inside.dynamic)) (sym kept))
