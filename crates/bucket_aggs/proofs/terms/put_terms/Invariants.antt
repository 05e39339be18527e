use Rattle.std.proofs.Common.{◌≡◌, ◌+◌, ◌-◌, length, true}
use Rattle.mapping_body.specs.declared.kind.Kind.{Kind}
use Rattle.query_ast.specs.Uses.{is_written}
use Rattle.tree_objects.specs.declared.field_value.FieldValue.{FieldValue}
use Rattle.bucket_aggs.specs.Counts.{AreKeys, counts_of, weight}
use Rattle.bucket_aggs.proofs.terms.put_terms.Given as goal

abbrev pub invariant-terms : goal.invariant-terms
invariant-terms l =
    ((v : FieldValue) → weight v l.rows.items + counts_of l.terms l.first v l.counts l.at (length l.counts - l.at) ≡ weight v l.fn.rows.items + counts_of l.terms l.first v l.counts 0 (length l.counts))
    × ((kind : Kind) → is_written kind ≡ true → AreKeys kind l.fn.rows.items → AreKeys kind l.rows.items)
