-- How what parts have of fields is written, put together by field.
use Rattle.std.specs.Prelude.{ℕ, ◌+◌, List, [], ◌∷◌, ◌++◌}
use Rattle.std.specs.List.{flat_map}
use Rattle.part_text.specs.Text.{counted_text, u32_text}

-- how many items parts have
abbrev pub total : {X : Type 0} → (X → ℕ) → List X → ℕ
total count [] = 0
total count (part ∷ parts) = count part + total count parts

-- a field, and the items of its parts behind their number
abbrev pub group_text : {X : Type 0} → (X → ℕ) → (X → List ℕ) → ℕ × List X → List ℕ
group_text count text group = u32_text group.0 ++ (u32_text (total count group.1) ++ flat_map text group.1)

-- a field, and its items behind their number
abbrev pub keyed_text : {X : Type 0} → (X → List ℕ) → ℕ × List X → List ℕ
keyed_text text group = u32_text group.0 ++ counted_text u32_text text group.1
