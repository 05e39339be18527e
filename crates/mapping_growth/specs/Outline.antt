-- The properties of a body as the walk that judges it keeps them: without their paths, since a body that is refused may
-- have many long ones.
use Rattle.std.specs.Prelude.{ℕ, List, Option}
use Rattle.tree_json.specs.Value.{JsonValue}
use Rattle.tree_json.specs.View.{view}
use Rattle.mapping_growth.specs.declared.property.Outline.{Outline}
use Rattle.mapping_body.specs.Names.{dot_count, place_of}
use Rattle.mapping_body.specs.Body.{Property}

-- the number of the kept field at its path, if there is one; the dots of its path; and what the body says
pub record Outlined : Type 0 where
  pub kept : Option ℕ
  pub dots : ℕ
  pub form : JsonValue

abbrev pub outline_of : Outline → Outlined
outline_of o = record { kept = o.kept; dots = o.dots; form = view o.form.now }

abbrev pub outlined : List (List ℕ) → Property → Outlined
outlined known p = record { kept = place_of p.path known; dots = dot_count p.path; form = p.form }
