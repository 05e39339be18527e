-- The bytes of a segment, part by part. Numbers are little-endian.
use Rattle.std.specs.Prelude.{ℕ, ℤ, ◌+◌, Bool, cond, List, [], ◌∷◌, ◌++◌}
use Rattle.std.specs.List.{flat_map}
use Rattle.block_bits.specs.Words.{words_of}
use Rattle.part_text.specs.Text.{u32_text, u64_text, i64_text, counted_text}
use Rattle.stored_sources.specs.Text.{roots_text}
use Rattle.term_table.specs.Part.{rows_text}
use Rattle.doc_values.specs.Text.{column_text}
use Rattle.segment_parts.specs.declared.columns.Columns.{Columns}

-- the bytes that stand first: SEG2
abbrev pub magic : List ℕ
magic = 83 ∷ 69 ∷ 71 ∷ 50 ∷ []

-- the documents of a scope: a u64 for each 64 documents, the first document in the lowest bit, the bits that are left over 0
abbrev pub scope_text : List Bool → List ℕ
scope_text flags = flat_map u64_text (words_of flags)

-- 1. the number of documents, and the documents of each scope behind the number of scopes
unfoldable pub head_text : ℕ → List (List Bool) → List ℕ
head_text documents scopes = magic ++ (u32_text documents ++ counted_text u32_text scope_text scopes)

-- 2. the roots, and 3. the terms with their postings are written as `stored_sources` and `term_table` say
unfoldable pub rows_part : Columns → List ℕ
rows_part columns = roots_text columns.roots ++ rows_text columns.terms

-- 4. the columns of ordinals
unfoldable pub ordinals_text : List (ℕ × List (ℕ × List ℕ)) → List ℕ
ordinals_text columns = counted_text u32_text (column_text u64_text) columns

-- 5. the columns of numbers
unfoldable pub numbers_text : List (ℕ × List (ℕ × List ℤ)) → List ℕ
numbers_text columns = counted_text u32_text (column_text i64_text) columns

-- the documents that have their flag set, where the first flag is that of document `start`
abbrev pub marked_places : ℕ → List Bool → List ℕ
marked_places start [] = []
marked_places start (flag ∷ flags) = cond flag (start ∷ marked_places (start + 1) flags) (marked_places (start + 1) flags)

-- a text field, and the documents with a value behind their number
abbrev pub presence_text : ℕ × List Bool → List ℕ
presence_text column = u32_text column.0 ++ counted_text u32_text u32_text (marked_places 0 column.1)

-- 6. the documents with a value, of each text field
unfoldable pub present_text : List (ℕ × List Bool) → List ℕ
present_text columns = counted_text u32_text presence_text columns

-- the parts, one behind the other
unfoldable pub segment_text : Columns → List ℕ
segment_text columns = head_text columns.documents columns.scopes ++ (rows_part columns ++ (ordinals_text columns.ordinals ++ (numbers_text columns.numbers ++ present_text columns.present)))
