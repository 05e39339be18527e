-- Lines of bytes: how an input is cut into them.
use Rattle.std.specs.Prelude.{ℕ, ◌==◌, Bool, true, false, ◌||◌, ◌&&◌, not, List, [], ◌∷◌, length, take, nat_lt, if◌then◌else◌}
use Rattle.std.specs.List.{list_all}

-- the byte that ends a line
abbrev pub newline : ℕ
newline = 10

-- the most bytes of a line that are kept, and the most that a line may have; the newline isn't counted
abbrev pub longest_line : ℕ
longest_line = 1048576

-- a line without its newline, and whether it has one: the last line of an input may end with the input
pub record Line : Type 0 where
  pub bytes : List ℕ
  pub ended : Bool

-- a byte in front of the first line; before no line it is a line of its own, which the input ends
abbrev pub with_first : ℕ → List Line → List Line
with_first byte [] = record { bytes = byte ∷ []; ended = false } ∷ []
with_first byte (line ∷ lines) = record { bytes = byte ∷ line.bytes; ended = line.ended } ∷ lines

-- the lines of an input; after its last newline there is a line only where a byte follows
abbrev pub lines_of : List ℕ → List Line
lines_of [] = []
lines_of (byte ∷ bytes) = if byte == newline then record { bytes = []; ended = true } ∷ lines_of bytes else with_first byte (lines_of bytes)

-- what is kept of a line
abbrev pub kept : Line → List ℕ
kept line = take longest_line line.bytes

abbrev pub is_long : Line → Bool
is_long line = nat_lt longest_line (length line.bytes)

-- a space, a tab or a carriage return
abbrev pub is_blank_byte : ℕ → Bool
is_blank_byte byte = (byte == 32) || ((byte == 9) || (byte == 13))

-- a line of blanks, which is passed over; one that is too long is none
abbrev pub is_blank : Line → Bool
is_blank line = not (is_long line) && list_all is_blank_byte line.bytes

-- what is left behind the blanks at the front
abbrev pub past_blanks : List ℕ → List ℕ
past_blanks [] = []
past_blanks (byte ∷ bytes) = if is_blank_byte byte then past_blanks bytes else byte ∷ bytes
