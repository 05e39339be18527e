-- Serves proofs alone: the tokens of a field's values, one value after the other, and their words, one token after the other.
use Rattle.std.specs.Prelude.{◌≡◌, ℕ, ◌+◌, ◌==◌, if◌then◌else◌, List, [], ◌∷◌, length, Option, Some, None}
use Rattle.std.specs.List.{filter_map}
use Rattle.analysis.specs.Words.{words}
use Rattle.tree_json.specs.Value.{JsonValue}
use Rattle.tree_objects.specs.Values.{text_of}
use Rattle.flattener.specs.declared.document.Word.{Word}
use Rattle.flattener.specs.Flat.{grouped, together, position_gap, texts_in, tokens_by, later_tokens}

-- the tokens of values from here on: `end` is one past the last position so far, and none where no value came yet
abbrev pub tokens_on : Option ℕ → List (List ℕ) → List (List ℕ × ℕ)
tokens_on None texts = tokens_by words texts
tokens_on (Some end) texts = later_tokens words end texts

-- the texts of some items of a text field
abbrev pub texts_among : List JsonValue → List (List ℕ)
texts_among vs = texts_in (filter_map text_of vs)

abbrev pub start_of : Option ℕ → ℕ
start_of None = 0
start_of (Some end) = end + position_gap

abbrev pub end_after : Option ℕ → ℕ → Option ℕ
end_after None count = Some count
end_after (Some end) count = Some (if count == 0 then end else end + position_gap + count)

abbrev pub end_of : Option ℕ → ℕ
end_of None = 0
end_of (Some end) = end

-- texts take up at most so many positions: a text has no more words than bytes, and a gap in front of it
abbrev pub room : List (List ℕ) → ℕ
room [] = 0
room (text ∷ texts) = length text + position_gap + room texts

-- the words of tokens from here on, of which one may be begun
abbrev pub grouped_on : ℕ → Option Word → List (List ℕ × ℕ) → List ((ℕ × List ℕ) × List ℕ)
grouped_on f None ts = grouped f ts
grouped_on f (Some word) ts = together f word.word.items word.positions.items ts

abbrev pub IsOfField : ℕ → Option Word → Type 0
IsOfField f None = Unit {0}
IsOfField f (Some word) = word.field ≡ f
