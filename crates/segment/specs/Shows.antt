-- What a flat document shows, and what the columns say of a document: the laws of `documents` tie the one to the other.
use Rattle.std.specs.Prelude.{ℕ, ℤ, ◌==◌, Bool, false, ◌&&◌, ◌||◌, List, [], Option, Some, None, slice_index_or}
use Rattle.std.specs.List.{list_any}
use Rattle.std.specs.Str.{bytes_eq}
use Rattle.doc_values.specs.Values.{values_of}
use Rattle.postings.specs.Marks.{has_document}
use Rattle.term_table.specs.Keys.{number_key}
use Rattle.term_table.specs.declared.rows.TermRow.{TermRow}
use Rattle.segment.specs.Flat.{FlatDocument}

-- a keyword of the field that passes a test of its bytes
abbrev pub is_keyword_of : ℕ → (List ℕ → Bool) → ℕ × List (List ℕ) → Bool
is_keyword_of field test pair = (pair.0 == field) && list_any test pair.1

-- a number of the field whose key passes
abbrev pub is_number_of : ℕ → (List ℕ → Bool) → ℕ × List ℤ → Bool
is_number_of field test pair = (pair.0 == field) && list_any (λ number. test (number_key number)) pair.1

-- a word of the field that passes
abbrev pub is_word_of : ℕ → (List ℕ → Bool) → (ℕ × List ℕ) × List ℕ → Bool
is_word_of field test word = (word.0.0 == field) && test word.0.1

-- the document has a term of the field that passes: a keyword, a number by its key, or a word
unfoldable pub has_term : ℕ → (List ℕ → Bool) → FlatDocument → Bool
has_term field test document =
    list_any (is_keyword_of field test) document.keywords
    || (list_any (is_number_of field test) document.numbers || list_any (is_word_of field test) document.words)

-- this word of the field, at a position that passes a test
abbrev pub is_word_at : ℕ → List ℕ → (ℕ → Bool) → (ℕ × List ℕ) × List ℕ → Bool
is_word_at field word test own = ((own.0.0 == field) && bytes_eq own.0.1 word) && list_any test own.1

-- the document has the word of the field at a position that passes
unfoldable pub has_word_at : ℕ → List ℕ → (ℕ → Bool) → FlatDocument → Bool
has_word_at field word test document = list_any (is_word_at field word test) document.words

-- the document has a value of the text field
unfoldable pub has_text : ℕ → FlatDocument → Bool
has_text field document = list_any (λ own. own == field) document.texts

-- a term of the field that passes and has the document among its postings
abbrev pub posts : ℕ → ℕ → (List ℕ → Bool) → TermRow → Bool
posts field doc test row = ((row.term.0 == field) && test row.term.1) && has_document doc row.postings

-- the values of a document in the column of a field, if there is one
abbrev pub column_values : {X : Type 0} → ℕ → Option (List (ℕ × List X)) → List X
column_values doc None = []
column_values doc (Some rows) = values_of doc rows

-- the flag of a document in the column of a field, if there is one
abbrev pub column_flag : ℕ → Option (List Bool) → Bool
column_flag doc None = false
column_flag doc (Some flags) = slice_index_or flags doc false
