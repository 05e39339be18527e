-- What a write leaves of a file.
use Rattle.std.specs.Prelude.{ℕ, ◌+◌, ◌-◌, List, [], ◌∷◌, ◌++◌, length, take, drop, replicate}

-- the file after these bytes were written at this offset: a gap before them is filled with zeros, and a write of nothing
-- changes nothing, also past the end
abbrev pub written : ℕ → List ℕ → List ℕ → List ℕ
written at [] file = file
written at (byte ∷ bytes) file =
    take at file ++ (replicate (at - length file) 0 ++ ((byte ∷ bytes) ++ drop (at + length (byte ∷ bytes)) file))
