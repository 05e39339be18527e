-- What becomes of a line that is to be printed.
use Rattle.std.specs.Prelude.{◌≡◌, ℕ, ◌+◌, ◌<◌, ◌≤◌, ◌↔◌, List, [], ◌∷◌, ◌++◌, length, Result, Err, OnOk, OnErr, IsOk}
use Rattle.tree_json.specs.Output.{OutState, room_of}
use Rattle.reply_text.specs.declared.line.TextRefusal.{TextRefusal}
use Rattle.reply_text.specs.declared.line.TextRefusal.TheVariants.{TooLarge}

abbrev pub newline : List ℕ
newline = 10 ∷ []

-- The line and a newline stand behind what was there, or nothing has changed. It is too large exactly where it has more
-- than so many bytes, the newline aside; memory never lacks where there is room for it and the newline.
pub record Printed {U : Type 0} (line : List ℕ) (most : ℕ) (old new : OutState) (result : Result U TextRefusal) : Type 0 where
  pub ok : OnOk result (new.bytes ≡ old.bytes ++ (line ++ newline))
  pub too_large : (result ≡ Err TooLarge) ↔ (most < length line)
  pub unchanged : OnErr result (new ≡ old)
  pub succeeds : length line ≤ most → length line + 1 ≤ old.spare → IsOk result
  pub room : room_of old ≤ room_of new
