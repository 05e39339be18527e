use Rattle.std.proofs.Common.{◌≡◌, ◌++◌}
use Rattle.tree_objects.specs.declared.field_value.FieldValue.TheVariants.{Written}
use Rattle.bucket_aggs.specs.Counts.{passed_of_view, shows}
use Rattle.bucket_aggs.proofs.Cuts.{passed_rest}
use Rattle.bucket_aggs.proofs.showing.showing.Given as goal

abbrev pub invariant-entries : goal.invariant-entries
invariant-entries l = l.made.items ++ passed_rest (shows l.kind l.field (Written l.text)) l.at l.entries l.fn.objects ≡ passed_of_view (shows l.kind l.field (Written l.text)) l.entries l.fn.objects
