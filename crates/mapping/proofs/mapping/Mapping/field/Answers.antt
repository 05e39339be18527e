use Rattle.std.proofs.Common.{◌≡◌, ◌∙◌, sym, ap, length}
use Rattle.mapping_growth.specs.Fields.{drafts_of}
use Rattle.mapping.specs.Mapping.{Mapping, field_named}
use Rattle.mapping.proofs.LookUps.{field_many, field_place}
use Rattle.mapping.proofs.mapping.Mapping.field.Goals as goal

pub returns-clause-number : goal.returns-clause-number
returns-clause-number c =
    c.field.ensures.number ∙ field_place c.self.inside.bodies c.self.inside.dynamic c.args.path.now ∙ ap (λ (m : Mapping). field_named m c.args.path.now) c.self.view_is

pub returns-clause-bound : goal.returns-clause-bound
returns-clause-bound c =
    let many : length c.args.self.now.fields ≡ length (drafts_of c.self.inside.bodies) = ap (λ (m : Mapping). length m.fields) (sym c.self.view_is) ∙ field_many c.self.inside.bodies c.self.inside.dynamic in
    rw many c.field.ensures.bound
