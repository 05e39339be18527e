-- Inside a clause of a join stand roots, if its relation is known.
use Rattle.std.proofs.Common.{◌≡◌, ℕ, Option, Some, None, refl}
use Rattle.tree_json.specs.Value.{Members}
use Rattle.mapping.specs.Mapping.{Mapping}
use Rattle.search_form.specs.declared.form.Form.TheVariants.{HasChild, HasParent}
use Rattle.search_walk.specs.Names.{root_if, scope_inside}
use Rattle.query_parser.specs.Readings.{child_in, parent_in}

pub child_inside : (m : Mapping) (scope : Option ℕ) (ms : Members) → scope_inside m scope HasChild ms ≡ root_if (child_in m scope ms)
child_inside m None ms = refl
child_inside m (Some n) ms = refl

pub parent_inside : (m : Mapping) (scope : Option ℕ) (ms : Members) → scope_inside m scope HasParent ms ≡ root_if (parent_in m scope ms)
parent_inside m None ms = refl
parent_inside m (Some n) ms = refl

pub ruleset joined = (child_inside, parent_inside)
