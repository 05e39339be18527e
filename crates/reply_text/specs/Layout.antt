-- The texts of the layout's rows.
use Rattle.std.specs.Prelude.{ℕ, List, [], ◌∷◌, codes, decimal, map}
use Rattle.reply_text.specs.Object.{entry, object_text, list_text}
use Rattle.reply_text.specs.declared.layout.SegmentRow.{SegmentRow}
use Rattle.reply_text.specs.declared.layout.MergeRow.{MergeRow}

unfoldable pub segment_text : SegmentRow → List ℕ
segment_text row = object_text (
    entry (codes "dead") (decimal row.dead)
    ∷ entry (codes "first") (decimal row.first)
    ∷ entry (codes "last") (decimal row.last)
    ∷ entry (codes "live") (decimal row.live)
    ∷ entry (codes "objects") (decimal row.objects)
    ∷ [])

unfoldable pub merge_text : MergeRow → List ℕ
merge_text row = object_text (
    entry (codes "count") (decimal row.count)
    ∷ entry (codes "from") (decimal row.from)
    ∷ entry (codes "left") (decimal row.left)
    ∷ entry (codes "merge") (decimal row.merge)
    ∷ [])

unfoldable pub segments_text : List SegmentRow → List ℕ
segments_text rows = list_text (map segment_text rows)

unfoldable pub merges_text : List MergeRow → List ℕ
merges_text rows = list_text (map merge_text rows)
