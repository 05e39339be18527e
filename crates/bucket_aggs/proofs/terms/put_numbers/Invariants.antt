use Rattle.std.proofs.Common.{◌≡◌, ◌+◌, count_by, drop, false}
use Rattle.mapping_body.specs.declared.kind.Kind.{Kind}
use Rattle.query_ast.specs.Uses.{is_written}
use Rattle.tree_objects.specs.declared.field_value.FieldValue.{FieldValue}
use Rattle.bucket_aggs.specs.Counts.{AreKeys, is_number, weight}
use Rattle.bucket_aggs.proofs.terms.put_numbers.Given as goal

abbrev pub invariant-numbers : goal.invariant-numbers
invariant-numbers l =
    ((v : FieldValue) → weight v l.rows.items + count_by (is_number v) (drop l.at l.numbers) ≡ weight v l.fn.rows.items + count_by (is_number v) l.numbers)
    × ((kind : Kind) → is_written kind ≡ false → AreKeys kind l.fn.rows.items → AreKeys kind l.rows.items)
