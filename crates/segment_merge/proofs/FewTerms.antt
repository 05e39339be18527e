-- There are no more terms than bytes in the text of a segment.
use Rattle.std.proofs.Common.{ℕ, ◌≤◌, List, [], ◌∷◌, ◌++◌, length, length-append, arith}
use Rattle.std.specs.List.{flat_map}
use Rattle.part_text.specs.Reads.{length-u32_text}
use Rattle.part_text.specs.Text.{counted_text, string_text, u32_text, u64_text}
use Rattle.segment_parts.specs.Text.{head_text, numbers_text, ordinals_text, present_text, rows_part, segment_text}
use Rattle.segment_parts.specs.declared.columns.Columns.{Columns}
use Rattle.stored_sources.specs.Text.{roots_text}
use Rattle.term_table.specs.Part.{posting_text, row_text, rows_text, term_text}
use Rattle.term_table.specs.declared.rows.TermRow.{TermRow}

one_byte : (row : TermRow) → 1 ≤ length (row_text row)
one_byte row =
    omega (
      arith,
      length-append (term_text row.term) (counted_text u32_text posting_text row.postings),
      length-append (u32_text row.term.0) (string_text row.term.1),
      length-u32_text row.term.0,
    )

rows_long : (rows : List TermRow) → length rows ≤ length (flat_map row_text rows)
rows_long [] = omega arith
rows_long (row ∷ rows) = omega (arith, length-append (row_text row) (flat_map row_text rows), one_byte row, rows_long rows)

terms_within : (columns : Columns) → length columns.terms ≤ length (rows_part columns)
unfolding rows_part
terms_within columns =
    omega (
      arith,
      length-append (roots_text columns.roots) (rows_text columns.terms),
      length-append (u64_text (length columns.terms)) (flat_map row_text columns.terms),
      rows_long columns.terms,
    )

pub few_terms : (columns : Columns) → length columns.terms ≤ length (segment_text columns)
unfolding segment_text
few_terms columns =
    let behind : List ℕ = ordinals_text columns.ordinals ++ (numbers_text columns.numbers ++ present_text columns.present) in
    omega (
      arith,
      length-append (head_text columns.documents columns.scopes) (rows_part columns ++ behind),
      length-append (rows_part columns) behind,
      terms_within columns,
    )
