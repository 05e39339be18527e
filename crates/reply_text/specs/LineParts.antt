-- The insides of the lines that hold lists, piece by piece as they are written. `LinePieces` in `proofs/` leads from them
-- to objects.
use Rattle.std.specs.Prelude.{ℕ, List, [], ◌∷◌, ◌++◌, false, codes, decimal, map}
use Rattle.query_ast.specs.Replies.{ReplyPart, replies_of}
use Rattle.query_ast.specs.declared.hit.HitPage.{HitPage}
use Rattle.reply_text.specs.BucketTexts.{answer_entries}
use Rattle.reply_text.specs.HitTexts.{hit_text}
use Rattle.reply_text.specs.Layout.{segment_text, merge_text}
use Rattle.reply_text.specs.Object.{Entry, object_text, elements_text}
use Rattle.reply_text.specs.declared.layout.MergeRow.{MergeRow}
use Rattle.reply_text.specs.declared.layout.SegmentRow.{SegmentRow}

abbrev pub aggregations_part : List Entry → List ℕ
aggregations_part [] = []
aggregations_part (answer ∷ answers) = codes "\"aggregations\":" ++ (object_text (answer ∷ answers) ++ codes ",")

unfoldable pub found_part : HitPage → List ReplyPart → List ℕ
found_part page answers =
    aggregations_part (answer_entries (replies_of answers))
    ++ (codes "\"hits\":{\"hits\":[" ++ (elements_text false (map hit_text page.hits) ++ (codes "],\"total\":" ++ (decimal page.total ++ codes "}"))))

unfoldable pub layout_part : List MergeRow → List SegmentRow → List ℕ
layout_part merges segments =
    codes "\"merges\":[" ++ (elements_text false (map merge_text merges) ++ (codes "],\"segments\":[" ++ (elements_text false (map segment_text segments) ++ codes "]")))

unfoldable pub store_part : ℕ → List SegmentRow → List ℕ
store_part next segments =
    codes "\"next_seq_no\":" ++ (decimal next ++ (codes ",\"segments\":[" ++ (elements_text false (map segment_text segments) ++ codes "]")))
