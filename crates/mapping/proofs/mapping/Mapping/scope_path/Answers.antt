use Rattle.std.proofs.Common.{◌≡◌, ◌<◌, ◌∙◌, length, sym, subst}
use Rattle.mapping.specs.Mapping.{Mapping, mapping_of}
use Rattle.mapping.proofs.LookUps.{path_kept}
use Rattle.mapping.proofs.mapping.Mapping.scope_path.Goals as goal

pub returns : goal.returns
returns c =
    let kept = path_kept c.self.inside.paths.items (mapping_of c.self.inside.bodies c.self.inside.dynamic).scopes c.args.scope c.index.result.now c.self.invariant.paths (subst (λ (m : Mapping). c.args.scope < length m.scopes) (sym c.self.view_is) c.requires) c.index.ensures in
    rw (← c.self.view_is) (c.as_slice.ensures.value ∙ sym kept)
