-- Lines of parents that end, and the marks of relations whose line does.
use Rattle.std.specs.Prelude.{◌≡◌, ℕ, Bool, true, false, List, Option, Some, None, slice_index_or, slice_set}
use Rattle.mapping_growth.specs.Relations.{Relation, climbed}

-- so many parents up there is none
pub record Ends (rs : List Relation) (at : Option ℕ) : Type 0 where
  pub steps : ℕ
  pub over : climbed steps rs at ≡ None

-- from each relation that is marked the line of parents ends
pub record AllEnd (rs : List Relation) (marks : List Bool) : Type 0 where
  pub ends : (n : ℕ) → slice_index_or marks n false ≡ true → Ends rs (Some n)

abbrev pub is_ended : List Bool → Option ℕ → Bool
is_ended marks None = true
is_ended marks (Some n) = slice_index_or marks n false

abbrev pub marked : List Bool → Option ℕ → List Bool
marked marks None = marks
marked marks (Some n) = slice_set marks n true
