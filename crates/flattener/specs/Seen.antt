-- How the definitions see documents and blocks.
use Rattle.std.specs.Prelude.{ℕ, ℤ, List, map}
use Rattle.segment.specs.Flat.{FlatDocument, FlatRoot}
use Rattle.stored_sources.specs.declared.root.Root.{Root}
use Rattle.flattener.specs.Block.{BlockState}
use Rattle.flattener.specs.declared.document.Block.{Block}
use Rattle.flattener.specs.declared.document.Document.{Document}
use Rattle.flattener.specs.declared.document.KeywordField.{KeywordField}
use Rattle.flattener.specs.declared.document.NumberField.{NumberField}
use Rattle.flattener.specs.declared.document.Word.{Word}

abbrev pub word_seen : Word → (ℕ × List ℕ) × List ℕ
word_seen word = ((word.field, word.word.items), word.positions.items)

abbrev pub number_seen : NumberField → ℕ × List ℤ
number_seen field = (field.field, field.values.items)

abbrev pub keyword_seen : KeywordField → ℕ × List (List ℕ)
keyword_seen field = (field.field, map (λ bytes. bytes.items) field.values.items)

abbrev pub document_seen : Document → FlatDocument
document_seen d = record {
  scope = d.scope;
  numbers = map number_seen d.numbers.items;
  keywords = map keyword_seen d.keywords.items;
  words = map word_seen d.words.items;
  texts = d.texts.items;
}

abbrev pub root_seen : Root → FlatRoot
root_seen root = record { id = root.id; number = root.number; generation = root.generation; join = root.join; source = root.source }

abbrev pub block_seen : Block → BlockState
block_seen b = record { flats = map document_seen b.documents.items; root = root_seen b.root }
