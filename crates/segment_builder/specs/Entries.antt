-- What the documents of blocks carry, as it is taken apart, document after document.
use Rattle.std.specs.Prelude.{ℕ, ℤ, List, [], ◌∷◌, ◌++◌, length, map}
use Rattle.std.specs.List.{flat_map}
use Rattle.smallvec.specs.SmallVec.{SmallVec}
use Rattle.segment.specs.Flat.{FlatDocument}
use Rattle.segment_builder.specs.Parts.{tagged, fields_with}
use Rattle.flattener.specs.Block.{BlockState}

-- the documents of blocks, one block behind the other
abbrev pub flats_in : List BlockState → List FlatDocument
flats_in blocks = flat_map (λ (block : BlockState). block.flats) blocks

-- ---- what is lent

abbrev pub bytes_lent : List (SmallVec ℕ) → List (List ℕ)
bytes_lent values = map (λ (bytes : SmallVec ℕ). bytes.items) values

pub record EntriesState : Type 0 where
  pub scopes : List ℕ
  pub numbers : List (ℕ × (ℕ × List ℤ))
  pub keywords : List (ℕ × (ℕ × List (List ℕ)))
  pub words : List ((ℕ × List ℕ) × (ℕ × List ℕ))
  pub texts : List (ℕ × ℕ)

abbrev pub no_entries : EntriesState
no_entries = record { scopes = []; numbers = []; keywords = []; words = []; texts = [] }

abbrev pub with_document : EntriesState → FlatDocument → EntriesState
with_document it flat = record {
  scopes = it.scopes ++ flat.scope ∷ [];
  numbers = it.numbers ++ tagged (length it.scopes) flat.numbers;
  keywords = it.keywords ++ tagged (length it.scopes) flat.keywords;
  words = it.words ++ tagged (length it.scopes) flat.words;
  texts = it.texts ++ fields_with (length it.scopes) flat.texts;
}

abbrev pub with_documents : EntriesState → List FlatDocument → EntriesState
with_documents it [] = it
with_documents it (flat ∷ flats) = with_documents (with_document it flat) flats

abbrev pub with_blocks : EntriesState → List BlockState → EntriesState
with_blocks it [] = it
with_blocks it (block ∷ blocks) = with_blocks (with_documents it block.flats) blocks
