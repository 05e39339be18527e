-- The flat document of an object: its scope, and by field the values that it shows, as the columns of a segment have
-- them (Lucene, the package `search.join`: a nested object is a document of its own).
use Rattle.std.specs.Prelude.{ℕ, ◌+◌, ◌==◌, ℤ, Bool, true, false, List, [], ◌∷◌, ◌++◌, length, map, filter, if◌then◌else◌}
use Rattle.std.specs.List.{filter_map, flat_map, range_with_len}
use Rattle.std.specs.Ordering.{nat_cmp, int_cmp, is_gt, ordering_then}
use Rattle.std.specs.declared.cmp.Ordering.{Ordering}
use Rattle.std.specs.Cmp.Lexicographic.{slice_cmp}
use Rattle.std.specs.Str.{bytes_eq}
use Rattle.std.specs.Prelude.{Option, Some, None}
use Rattle.analysis.specs.Words.{words}
use Rattle.mapping_body.specs.declared.kind.Kind.{Kind}
use Rattle.mapping_body.specs.declared.kind.Kind.TheVariants.{Text, Keyword, Long, Boolean, Date, Object as Plain, Nested, Join}
use Rattle.mapping.specs.Mapping.{Mapping, kind_at}
use Rattle.segment.specs.Flat.{FlatDocument, has_some}
use Rattle.tree_objects.specs.declared.field_value.FieldValue.{FieldValue}
use Rattle.tree_objects.specs.declared.field_value.FieldValue.TheVariants.{Number, Written}
use Rattle.tree_objects.specs.Object.{Object, scope}
use Rattle.tree_objects.specs.Values.{values}

-- ---- lists in order

module _ {A : Type 0} where
  abbrev pub placed : (A → A → Ordering) → A → List A → List A
  placed cmp new [] = new ∷ []
  placed cmp new (first ∷ rest) = if is_gt (cmp new first) then first ∷ placed cmp new rest else new ∷ first ∷ rest

  -- the list in ascending order, repeats included
  abbrev pub ascending : (A → A → Ordering) → List A → List A
  ascending cmp [] = []
  ascending cmp (x ∷ xs) = placed cmp x (ascending cmp xs)

-- the order of bytes
abbrev pub bytes_cmp : List ℕ → List ℕ → Ordering
bytes_cmp a b = slice_cmp nat_cmp a b

-- ---- the kinds of columns

-- the fields whose values are numbers: a boolean is 0 or 1, a date its milliseconds
abbrev pub has_numbers : Kind → Bool
has_numbers Text = false
has_numbers Keyword = false
has_numbers Long = true
has_numbers Boolean = true
has_numbers Date = true
has_numbers Plain = false
has_numbers Nested = false
has_numbers Join = false

abbrev pub is_keyword : Kind → Bool
is_keyword Text = false
is_keyword Keyword = true
is_keyword Long = false
is_keyword Boolean = false
is_keyword Date = false
is_keyword Plain = false
is_keyword Nested = false
is_keyword Join = false

abbrev pub is_text : Kind → Bool
is_text Text = true
is_text Keyword = false
is_text Long = false
is_text Boolean = false
is_text Date = false
is_text Plain = false
is_text Nested = false
is_text Join = false

-- the numbers of the fields of some kinds, ascending
abbrev pub fields_of : (Kind → Bool) → Mapping → List ℕ
fields_of test m = filter (λ f. test (kind_at m f)) (range_with_len 0 (length m.fields))

abbrev pub number_in : FieldValue → Option ℤ
number_in (Number z) = Some z
number_in (Written s) = None

abbrev pub text_in : FieldValue → Option (List ℕ)
text_in (Number z) = None
text_in (Written s) = Some s

abbrev pub numbers_in : List FieldValue → List ℤ
numbers_in vs = filter_map number_in vs

abbrev pub texts_in : List FieldValue → List (List ℕ)
texts_in vs = filter_map text_in vs

-- ---- the words of a text field, with their positions

-- the gap between one value's positions and the next one's, so that no phrase goes over two values
abbrev pub position_gap : ℕ
position_gap = 100

-- words with positions one after the other, the first having the position `at`
abbrev pub placed_words : ℕ → List (List ℕ) → List (List ℕ × ℕ)
placed_words at [] = []
placed_words at (word ∷ rest) = (word, at) ∷ placed_words (at + 1) rest

-- The tokens of the values behind the first, where `end` is one past the last position so far, and 0 before any token.
-- `cut` gives the words of a text.
abbrev pub later_tokens : (List ℕ → List (List ℕ)) → ℕ → List (List ℕ) → List (List ℕ × ℕ)
later_tokens cut end [] = []
later_tokens cut end (text ∷ texts) =
    placed_words (end + position_gap) (cut text)
    ++ later_tokens cut (if length (cut text) == 0 then end else end + position_gap + length (cut text)) texts

abbrev pub tokens_by : (List ℕ → List (List ℕ)) → List (List ℕ) → List (List ℕ × ℕ)
tokens_by cut [] = []
tokens_by cut (text ∷ texts) = placed_words 0 (cut text) ++ later_tokens cut (length (cut text)) texts

-- The words of a field's values in order, each with its position. The first value's begin at 0, and each later value's
-- so far behind the last position that there is (Elasticsearch reference, position_increment_gap).
unfoldable pub tokens : List (List ℕ) → List (List ℕ × ℕ)
tokens texts = tokens_by words texts

-- tokens in the byte order of their words, those of one word by their positions
abbrev pub token_cmp : List ℕ × ℕ → List ℕ × ℕ → Ordering
token_cmp a b = ordering_then (bytes_cmp a.0 b.0) (nat_cmp a.1 b.1)

-- neighbours of one word put together, where `word` with these positions comes before the tokens
abbrev pub together : ℕ → List ℕ → List ℕ → List (List ℕ × ℕ) → List ((ℕ × List ℕ) × List ℕ)
together f word positions [] = ((f, word), positions) ∷ []
together f word positions (token ∷ ts) =
    if bytes_eq token.0 word then together f word (positions ++ token.1 ∷ []) ts
    else ((f, word), positions) ∷ together f token.0 (token.1 ∷ []) ts

abbrev pub grouped : ℕ → List (List ℕ × ℕ) → List ((ℕ × List ℕ) × List ℕ)
grouped f [] = []
grouped f (token ∷ ts) = together f token.0 (token.1 ∷ []) ts

-- each different word once, in byte order, with its field and its positions
abbrev pub words_of_field : ℕ → List (List ℕ × ℕ) → List ((ℕ × List ℕ) × List ℕ)
words_of_field f ts = grouped f (ascending token_cmp ts)

-- ---- the document

abbrev pub number_field : Mapping → Object → ℕ → ℕ × List ℤ
number_field m o f = (f, ascending int_cmp (numbers_in (values m f o)))

abbrev pub keyword_field : Mapping → Object → ℕ → ℕ × List (List ℕ)
keyword_field m o f = (f, ascending bytes_cmp (texts_in (values m f o)))

-- in the order of the values, which positions follow
abbrev pub text_field : Mapping → Object → ℕ → ℕ × List (List ℕ)
text_field m o f = (f, texts_in (values m f o))

abbrev pub field_words : ℕ × List (List ℕ) → List ((ℕ × List ℕ) × List ℕ)
field_words field = words_of_field field.0 (tokens field.1)

-- the values of an object by field, but for fields without a value; those of number and keyword fields ascend
abbrev pub flat_of : Mapping → Object → FlatDocument
flat_of m o = record {
  scope = scope o;
  numbers = filter has_some (map (number_field m o) (fields_of has_numbers m));
  keywords = filter has_some (map (keyword_field m o) (fields_of is_keyword m));
  words = flat_map field_words (map (text_field m o) (fields_of is_text m));
  texts = map (λ (field : ℕ × List (List ℕ)). field.0) (filter has_some (map (text_field m o) (fields_of is_text m)));
}
