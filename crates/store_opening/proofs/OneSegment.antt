-- Bytes of either form are those of one segment at most.
use Rattle.std.proofs.Common.{◌≡◌, ◌∙◌, ℕ, Bool, true, false, List, sym}
use Rattle.segment_parts.specs.Heads.{OneSet}
use Rattle.segment_parts.specs.Whole.{segment_once}
use Rattle.segment_parts.specs.declared.columns.Columns.{Columns}
use Rattle.store_opening.specs.Segments.{IsSegmentText, AreOnce}
use Rattle.one_commit.proofs.Old.{OneOldRoot, old_once}

pub columns_once : OneSet → OneOldRoot → (old : Bool) (scope_count : ℕ) (one other : Columns) (bytes : List ℕ) → IsSegmentText old scope_count one bytes
    → IsSegmentText old scope_count other bytes → one ≡ other
columns_once one_set one_root true scope_count one other bytes is are = old_once one_set one_root one other bytes is.encoding are.encoding
columns_once one_set one_root false scope_count one other bytes is are = segment_once one_set one other is.are.parts are.are.parts (sym is.text ∙ are.text)
