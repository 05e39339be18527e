-- How the parts of a segment are written: numbers with their lowest byte first, bytes behind their number, and lists behind
-- theirs.
use Rattle.std.specs.Prelude.{ℕ, ℤ, List, ◌++◌, length}
use Rattle.std.specs.List.{flat_map}
use Rattle.std.specs.Int.{w32, w64, to_le_bytes, cast_unsigned}

-- four bytes
unfoldable pub u32_text : ℕ → List ℕ
u32_text number = to_le_bytes w32 number

-- eight bytes
unfoldable pub u64_text : ℕ → List ℕ
u64_text number = to_le_bytes w64 number

-- eight bytes, in two's complement
unfoldable pub i64_text : ℤ → List ℕ
i64_text number = u64_text (cast_unsigned w64 number)

-- bytes behind their number
abbrev pub string_text : List ℕ → List ℕ
string_text bytes = u32_text (length bytes) ++ bytes

-- a list behind its number: the texts of its items, one after the other
abbrev pub counted_text : {X : Type 0} → (ℕ → List ℕ) → (X → List ℕ) → List X → List ℕ
counted_text number text items = number (length items) ++ flat_map text items
