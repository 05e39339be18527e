use Rattle.std.proofs.Common.{◌≡◌, ◌+◌, drop}
use Rattle.tree_objects.specs.declared.field_value.FieldValue.{FieldValue}
use Rattle.bucket_aggs.specs.Counts.{view_ups, weight}
use Rattle.bucket_aggs.proofs.Viewed.{Counting}
use Rattle.bucket_aggs.proofs.at_once.counted_at_once.Given as goal

abbrev pub invariant-entries : goal.invariant-entries
invariant-entries l =
    Counting l.kind l.field l.at l.entries l.objects l.rows.items
    × ((v : FieldValue) → weight v l.ups.items + view_ups l.to l.kind l.field (drop l.at l.entries) (drop l.at l.objects) v ≡ view_ups l.to l.kind l.field l.entries l.objects v)
