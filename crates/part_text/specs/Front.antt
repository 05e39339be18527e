-- The number that the first bytes are, whatever follows.
use Rattle.std.specs.Prelude.{ℕ, ℤ, List, take}
use Rattle.std.specs.Int.{w32, w64, from_le_bytes, cast_signed}

unfoldable pub first_u32 : List ℕ → ℕ
first_u32 bytes = from_le_bytes w32 (take 4 bytes)

unfoldable pub first_u64 : List ℕ → ℕ
first_u64 bytes = from_le_bytes w64 (take 8 bytes)

unfoldable pub first_i64 : List ℕ → ℤ
first_i64 bytes = cast_signed w64 (first_u64 bytes)
