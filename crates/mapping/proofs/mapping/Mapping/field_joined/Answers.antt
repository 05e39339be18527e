use Rattle.std.proofs.Common.{◌≡◌, ◌∙◌, sym, ap, subst, length, ℕ, Option, IfSome}
use Rattle.mapping_growth.specs.Fields.{drafts_of}
use Rattle.mapping_body.specs.Names.{joined}
use Rattle.mapping.specs.Mapping.{Mapping, field_at, field_named}
use Rattle.mapping.proofs.Fields.{path_named}
use Rattle.mapping.proofs.LookUps.{field_many, field_place}
use Rattle.mapping.proofs.mapping.Mapping.field_joined.Goals as goal

pub returns-clause-field : goal.returns-clause-field
returns-clause-field c =
    c.field.ensures.number ∙ field_place c.self.inside.bodies c.self.inside.dynamic (joined c.args.path.now c.args.name.now) ∙ ap (λ (m : Mapping). field_named m (joined c.args.path.now c.args.name.now)) c.self.view_is

pub returns-clause-bound : goal.returns-clause-bound
returns-clause-bound c =
    let many : length c.args.self.now.fields ≡ length (drafts_of c.self.inside.bodies) = ap (λ (m : Mapping). length m.fields) (sym c.self.view_is) ∙ field_many c.self.inside.bodies c.self.inside.dynamic in
    rw many c.field.ensures.bound

pub returns-clause-path : goal.returns-clause-path
returns-clause-path c =
    let motive : Option ℕ → Type 0 = λ o. IfSome o (λ field. (field_at c.args.self.now field).path ≡ joined c.args.path.now c.args.name.now) in
    subst motive (sym (returns-clause-field c)) (path_named c.args.self.now (joined c.args.path.now c.args.name.now))
