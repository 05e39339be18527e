use Rattle.std.proofs.Common.{◌<◌, ◌∙◌, sym, ap, length, arith}
use Rattle.mapping.specs.Mapping.{Mapping, field_at}
use Rattle.mapping.proofs.LookUps.{field_count, field_seen}
use Rattle.mapping.proofs.mapping.Mapping.path.Goals as goal

pub bounds-fields-field : goal.bounds-fields-field
bounds-fields-field c =
    omega (arith, c.requires, ap (λ (m : Mapping). length m.fields) c.self.view_is, field_count c.self.inside.bodies c.self.inside.dynamic c.fields.result.now c.fields.ensures.fields)

pub returns : goal.returns
returns c =
    let inside : c.args.field < length c.fields.result.now =
    omega (arith, c.requires, ap (λ (m : Mapping). length m.fields) c.self.view_is, field_count c.self.inside.bodies c.self.inside.dynamic c.fields.result.now c.fields.ensures.fields) in
    let seen = field_seen c.self.inside.bodies c.self.inside.dynamic c.fields.result.now c.args.field c.index-fields-field.result c.fields.ensures.fields inside c.index-fields-field.is in
    let told = ap (λ f. f.path) (sym seen) ∙ ap (λ (m : Mapping). (field_at m c.args.field).path) c.self.view_is in
    c.as_slice.ensures.value ∙ ap (λ d. d.path.items) (sym c.index-fields-field.is) ∙ told
