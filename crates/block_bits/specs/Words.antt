-- A set of documents as u64s, as a segment's bytes have it.
use Rattle.std.specs.Prelude.{ℕ, ◌+◌, ◌*◌, ◌/◌, Bool, List, [], ◌∷◌, length, map, take, drop, if◌then◌else◌}
use Rattle.std.specs.List.{range_with_len}

-- the number that has these flags as bits, the first as its lowest
abbrev pub bits_number : List Bool → ℕ
bits_number [] = 0
bits_number (flag ∷ flags) = (if flag then 1 else 0) + 2 * bits_number flags

-- the documents from `64 * place` on, up to 64 of them
abbrev pub word_at : List Bool → ℕ → ℕ
word_at flags place = bits_number (take 64 (drop (64 * place) flags))

-- the u64s of a set, 64 documents each
unfoldable pub words_of : List Bool → List ℕ
words_of flags = map (word_at flags) (range_with_len 0 ((length flags + 63) / 64))
