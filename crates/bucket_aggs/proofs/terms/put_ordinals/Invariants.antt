use Rattle.std.proofs.Common.{◌≡◌, ◌+◌, count_by, drop, true}
use Rattle.mapping_body.specs.declared.kind.Kind.{Kind}
use Rattle.query_ast.specs.Uses.{is_written}
use Rattle.tree_objects.specs.declared.field_value.FieldValue.{FieldValue}
use Rattle.bucket_aggs.specs.Counts.{AreKeys, is_term, weight}
use Rattle.bucket_aggs.proofs.terms.put_ordinals.Given as goal

abbrev pub invariant-ordinals : goal.invariant-ordinals
invariant-ordinals l =
    ((v : FieldValue) → weight v l.rows.items + count_by (is_term l.terms v) (drop l.at l.ordinals) ≡ weight v l.fn.rows.items + count_by (is_term l.terms v) l.ordinals)
    × ((kind : Kind) → is_written kind ≡ true → AreKeys kind l.fn.rows.items → AreKeys kind l.rows.items)
