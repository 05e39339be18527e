use Rattle.std.proofs.Common.{◌∙◌, ap, List}
use Rattle.std.specs.List.{list_any}
use Rattle.mapping_growth.specs.Bodies.{is_number}
use Rattle.mapping_growth.specs.Relations.{Relation}
use Rattle.mapping.specs.Mapping.{Mapping, is_parent}
use Rattle.mapping.proofs.mapping.Mapping.is_parent_relation.Goals as goal

pub returns : goal.returns
returns c =
    c.some_has_parent.ensures ∙ ap (λ (rs : List Relation). list_any (λ r. is_number c.args.relation r.parent) rs) c.relations.ensures.relations
    ∙ ap (λ (m : Mapping). is_parent m c.args.relation) c.self.view_is
