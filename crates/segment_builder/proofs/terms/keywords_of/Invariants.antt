use Rattle.std.proofs.Common.{◌≡◌, ◌++◌, drop, map}
use Rattle.segment_builder.specs.Columns.{keyword_rows}
use Rattle.segment_builder.specs.Terms.{keyword_entries, keyword_entry}
use Rattle.segment_builder.proofs.terms.keywords_of.Given as goal

abbrev pub invariant-rows : goal.invariant-rows
invariant-rows l = map keyword_entry l.entries.items ++ keyword_entries (keyword_rows (drop l.doc-index l.rows)) ≡ keyword_entries (keyword_rows l.rows)
