use Rattle.std.proofs.Common.{ℕ, List, nat_eq, ap, ◌∙◌}
use Rattle.std.specs.List.{list_any}
use Rattle.leaf_search.proofs.Going.{is_present, values_on}
use Rattle.leaf_search.proofs.conjunction.stands.Goals as goal

pub has_position-requires : goal.has_position-requires
has_position-requires c = is_present c.args.doc c.args.cursor.now c.requires

pub returns : goal.returns
returns c = c.has_position.ensures ∙ ap (λ (ps : List ℕ). list_any (λ p. nat_eq p c.args.position) ps) (values_on c.args.doc c.args.cursor.now c.requires)
