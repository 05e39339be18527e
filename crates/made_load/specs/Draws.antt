-- The numbers that are drawn: a linear congruential generator modulo 2 ^ 64, with the multiplier and the increment of Knuth's
-- MMIX (The Art of Computer Programming, volume 2, section 3.3.4), of whose states the upper 31 bits are used.
use Rattle.std.specs.Prelude.{ℕ, ◌+◌, ◌*◌, ◌/◌, ◌%◌, ◌^◌, List}

-- the state behind a state: each draw goes one on
unfoldable pub next_state : ℕ → ℕ
next_state state = (state * 6364136223846793005 + 1442695040888963407) % 2 ^ 64

-- the number below `bound` that is drawn at a state
unfoldable pub drawn : ℕ → ℕ → ℕ
drawn bound state = (next_state state / 2 ^ 33) % bound

-- a text that was drawn, and the state behind its draws
pub record Drawn : Type 0 where
  pub text : List ℕ
  pub after : ℕ
