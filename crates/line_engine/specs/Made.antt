-- The bytes of the made input that are left. They serve private calls and the proofs alone.
use Rattle.std.specs.Prelude.{ℕ, List, ◌++◌}
use Rattle.made_load.specs.Lines.{lines_text}

-- the bytes that stand ready, and the lines behind them
pub record MadeState : Type 0 where
  pub ready : List ℕ
  pub lines : List (List ℕ)

abbrev pub bytes_left : MadeState → List ℕ
bytes_left made = made.ready ++ lines_text made.lines
