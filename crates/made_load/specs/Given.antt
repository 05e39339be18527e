-- What one call hands out of the lines that are left.
use Rattle.std.specs.Prelude.{◌≡◌, ℕ, ◌≤◌, List, ◌++◌, length}
use Rattle.made_load.specs.Lines.{lines_text}

-- the first of the lines that were left, one at least and four at most, were appended whole; the others are left
pub record Gives (left left' : List (List ℕ)) (bytes bytes' : List ℕ) : Type 0 where
  pub lines : List (List ℕ)
  pub parts : left ≡ lines ++ left'
  pub some : 1 ≤ length lines
  pub few : length lines ≤ 4
  pub written : bytes' ≡ bytes ++ lines_text lines
