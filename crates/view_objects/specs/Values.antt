-- The values that a document shows of a field, as the column of the field has them.
use Rattle.std.specs.Prelude.{ℕ, List, map, if◌then◌else◌}
use Rattle.doc_values.specs.Values.{values_of}
use Rattle.mapping_body.specs.declared.kind.Kind.{Kind}
use Rattle.query_ast.specs.Uses.{is_written}
use Rattle.segment.specs.Flat.{FlatDocument}
use Rattle.tree_objects.specs.declared.field_value.FieldValue.{FieldValue}
use Rattle.tree_objects.specs.declared.field_value.FieldValue.TheVariants.{Number, Written}

-- texts or numbers, by the kind of the field; they ascend
abbrev pub values_shown : Kind → ℕ → FlatDocument → List FieldValue
values_shown kind f d = if is_written kind then map Written (values_of f d.keywords) else map Number (values_of f d.numbers)
