-- The record of a commit that is prepared, and what is written for it.
use Rattle.std.specs.Prelude.{ℕ, Bool, false, List, [], ◌∷◌, ◌++◌, map, filter}
use Rattle.store_text.specs.Pieces.{Piece}
use Rattle.store_text.specs.Record.{record_text}
use Rattle.store_text.specs.declared.record.RecordText.{RecordText}
use Rattle.store_text.specs.declared.record.Row.{Row}
use Rattle.commit_store.specs.Saying.{dead_of}
use Rattle.commit_store.specs.Preparing.{PlannedSegment, PreparedState, moves, piece_of}

abbrev pub planned_row : PlannedSegment → Row
planned_row segment = record { at = segment.extent.at; len = segment.extent.len; dead = dead_of segment.live }

abbrev pub record_planned : List (List ℕ) → Bool → ℕ → List PlannedSegment → RecordText
record_planned bodies dynamic next segments = record { old = false; next = next; dynamic = dynamic; bodies = bodies; rows = map planned_row segments }

abbrev pub record_prepared : PreparedState → RecordText
record_prepared prepared = record_planned prepared.bodies prepared.dynamic prepared.next prepared.segments

abbrev pub record_piece : PreparedState → Piece
record_piece prepared = record { at = prepared.record_extent.at; bytes = record_text (record_prepared prepared) }

-- each segment that doesn't stay, in order, and the record
abbrev pub written_pieces : PreparedState → List Piece
written_pieces prepared = map piece_of (filter moves prepared.segments) ++ record_piece prepared ∷ []
