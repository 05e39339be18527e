-- How roots are written, one behind the other.
use Rattle.std.specs.Prelude.{ℕ, List, [], ◌∷◌, ◌++◌}
use Rattle.std.specs.List.{flat_map}
use Rattle.part_text.specs.Text.{u32_text, u64_text, string_text}
use Rattle.stored_sources.specs.declared.root.Join.{Join}
use Rattle.stored_sources.specs.declared.root.Join.TheVariants.{Unjoined, Named, Child}
use Rattle.stored_sources.specs.declared.root.Root.{Root}

-- a byte for the kind of join value, the relation, and the id of the parent
abbrev pub join_text : Join → List ℕ
join_text Unjoined = 0 ∷ []
join_text (Named relation) = 1 ∷ u32_text relation
join_text (Child relation parent) = 2 ∷ (u32_text relation ++ string_text parent)

-- the id, the number, the mapping generation, the source and the join value
abbrev pub root_text : Root → List ℕ
root_text root = string_text root.id ++ (u64_text root.number ++ (u32_text root.generation ++ (string_text root.source ++ join_text root.join)))

-- a root as it was written before mappings grew: without its mapping generation
abbrev pub old_root_text : Root → List ℕ
old_root_text root = string_text root.id ++ (u64_text root.number ++ (string_text root.source ++ join_text root.join))

abbrev pub roots_text : List Root → List ℕ
roots_text roots = flat_map root_text roots
