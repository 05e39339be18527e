use Rattle.std.proofs.Common.{◌≡◌, ◌++◌, drop, map}
use Rattle.segment_builder.specs.Columns.{number_rows}
use Rattle.segment_builder.specs.Terms.{key_entry, number_entries}
use Rattle.segment_builder.proofs.terms.keys_of.Given as goal

abbrev pub invariant-rows : goal.invariant-rows
invariant-rows l = map key_entry l.entries.items ++ number_entries (number_rows (drop l.doc-index l.rows)) ≡ number_entries (number_rows l.rows)
