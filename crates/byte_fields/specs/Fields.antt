-- How a field is spelled in bytes. Numbers stand with their lowest byte first; bytes stand behind their length, a u32.
use Rattle.std.specs.Prelude.{ℕ, List, [], ◌∷◌, ◌++◌, length}
use Rattle.std.specs.Int.{to_le_bytes, w32, w64}

abbrev pub spelled_u8 : ℕ → List ℕ
spelled_u8 n = n ∷ []

abbrev pub spelled_u32 : ℕ → List ℕ
spelled_u32 n = to_le_bytes w32 n

abbrev pub spelled_u64 : ℕ → List ℕ
spelled_u64 n = to_le_bytes w64 n

abbrev pub spelled_bytes : List ℕ → List ℕ
spelled_bytes bytes = spelled_u32 (length bytes) ++ bytes
