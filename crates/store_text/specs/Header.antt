-- The header of a store: 2,048 bytes with a magic and two slots, each behind its gate.
use Rattle.std.specs.Prelude.{ℕ, ◌==◌, Bool, List, [], ◌∷◌, ◌++◌, take, drop, slice_index_or}
use Rattle.std.specs.Int.{from_le_bytes, w64}
use Rattle.byte_fields.specs.Fields.{spelled_u64}
use Rattle.store_text.specs.Pieces.{Piece}
use Rattle.store_text.specs.declared.header.Side.{Side}
use Rattle.store_text.specs.declared.header.Side.TheVariants.{A, B}

-- how many bytes the header has
abbrev pub header_size : ℕ
header_size = 2_048

-- the ASCII text NESTSEG1
abbrev pub magic : Piece
magic = record { at = 0; bytes = 78 ∷ 69 ∷ 83 ∷ 84 ∷ 83 ∷ 69 ∷ 71 ∷ 49 ∷ [] }

abbrev pub other : Side → Side
other A = B
other B = A

-- the place of a slot's gate, and that of the slot
abbrev pub gate_at : Side → ℕ
gate_at A = 512
gate_at B = 1_024

abbrev pub slot_at : Side → ℕ
slot_at A = 520
slot_at B = 1_032

-- the byte of an open gate
abbrev pub open_byte : ℕ
open_byte = 165

abbrev pub gate : Side → Piece
gate side = record { at = gate_at side; bytes = open_byte ∷ [] }

-- a slot: the generation of a commit, and the place and the length of its record
abbrev pub slot : Side → ℕ → ℕ → ℕ → Piece
slot side generation at len = record { at = slot_at side; bytes = spelled_u64 generation ++ (spelled_u64 at ++ spelled_u64 len) }

-- A gate is open exactly where its byte is A5.
abbrev pub is_open : Side → List ℕ → Bool
is_open side file = slice_index_or file (gate_at side) 0 == open_byte

-- the generation that a slot names, whatever its gate
unfoldable pub generation_in : Side → List ℕ → ℕ
generation_in side file = from_le_bytes w64 (take 8 (drop (slot_at side) file))
