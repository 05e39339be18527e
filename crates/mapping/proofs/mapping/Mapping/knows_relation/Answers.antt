use Rattle.std.proofs.Common.{◌<◌, ◌∙◌, sym, ap, length, arith, nat_le}
use Rattle.mapping.specs.Mapping.{Mapping, knows_relation}
use Rattle.mapping.proofs.LookUps.{relation_many, relation_seen}
use Rattle.mapping.proofs.mapping.Mapping.knows_relation.Goals as goal

pub bounds-relations-relation : goal.bounds-relations-relation
bounds-relations-relation c =
    omega (arith, c.requires, ap (λ (m : Mapping). length m.relations) c.self.view_is, relation_many c.self.inside.bodies c.self.inside.dynamic c.relations.result.now c.relations.ensures.relations)

pub returns : goal.returns
returns c =
    let inside : c.args.relation < length c.relations.result.now =
    omega (arith, c.requires, ap (λ (m : Mapping). length m.relations) c.self.view_is, relation_many c.self.inside.bodies c.self.inside.dynamic c.relations.result.now c.relations.ensures.relations) in
    let seen = relation_seen c.self.inside.bodies c.self.inside.dynamic c.relations.result.now c.args.relation c.index-relations-relation.result c.relations.ensures.relations inside c.index-relations-relation.is in
    ap (λ r. nat_le r.since c.args.generation) (sym c.index-relations-relation.is) ∙ ap (λ r. nat_le r.since c.args.generation) (sym seen) ∙ ap (λ (m : Mapping). knows_relation m c.args.generation c.args.relation) c.self.view_is
