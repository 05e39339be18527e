-- The lines that are left, by the part of the input that comes next.
use Rattle.std.specs.Prelude.{ℕ, ◌-◌, List, [], ◌∷◌, ◌++◌}
use Rattle.made_load.specs.declared.input.Part.{Part}
use Rattle.made_load.specs.declared.input.Part.TheVariants.{Mapping, Changes, Nothing}
use Rattle.made_load.specs.Lines.{mapping_line, commit_line, changes}

abbrev pub lines_left : Part → ℕ → ℕ → ℕ → List (List ℕ)
lines_left Mapping document count state = mapping_line ∷ (changes document (count - document) state ++ commit_line ∷ [])
lines_left Changes document count state = changes document (count - document) state ++ commit_line ∷ []
lines_left Nothing document count state = []
