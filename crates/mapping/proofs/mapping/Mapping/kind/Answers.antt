use Rattle.std.proofs.Common.{◌<◌, ◌∙◌, sym, ap, length, arith}
use Rattle.mapping.specs.Mapping.{Mapping, kind_at}
use Rattle.mapping.proofs.LookUps.{field_count, field_seen}
use Rattle.mapping.proofs.mapping.Mapping.kind.Goals as goal

pub bounds-fields-field : goal.bounds-fields-field
bounds-fields-field c =
    omega (arith, c.requires, ap (λ (m : Mapping). length m.fields) c.self.view_is, field_count c.self.inside.bodies c.self.inside.dynamic c.fields.result.now c.fields.ensures.fields)

pub returns : goal.returns
returns c =
    let inside : c.args.field < length c.fields.result.now =
    omega (arith, c.requires, ap (λ (m : Mapping). length m.fields) c.self.view_is, field_count c.self.inside.bodies c.self.inside.dynamic c.fields.result.now c.fields.ensures.fields) in
    let seen = field_seen c.self.inside.bodies c.self.inside.dynamic c.fields.result.now c.args.field c.index-fields-field.result c.fields.ensures.fields inside c.index-fields-field.is in
    ap (λ d. d.kind) (sym c.index-fields-field.is) ∙ ap (λ f. f.kind) (sym seen) ∙ ap (λ (m : Mapping). kind_at m c.args.field) c.self.view_is
