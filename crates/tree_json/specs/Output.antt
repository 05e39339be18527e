-- What contracts see of an `OutText`: the bytes that it holds, and how many more it can take without memory.
use Rattle.std.specs.Prelude.{ℕ, ◌+◌, List, length}

pub record OutState : Type 0 where
  pub bytes : List ℕ
  pub spare : ℕ

-- the bytes that it holds and can still take, together: no call makes this smaller
abbrev pub room_of : OutState → ℕ
room_of out = length out.bytes + out.spare
