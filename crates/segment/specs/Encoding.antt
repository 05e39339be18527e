-- Which bytes are a segment.
use Rattle.std.specs.Prelude.{◌≡◌, ℕ, List}
use Rattle.segment_parts.specs.Text.{segment_text}
use Rattle.segment_parts.specs.Agree.{AreColumns}
use Rattle.segment_parts.specs.declared.columns.Columns.{Columns}

-- the bytes are the text of these columns, and the columns agree
pub record IsEncoding (columns : Columns) (bytes : List ℕ) : Type 0 where
  pub are : AreColumns columns
  pub text : bytes ≡ segment_text columns
