-- Serves proofs alone: what a field adds to a document.
use Rattle.std.specs.Prelude.{◌≡◌, ℕ, ◌++◌, ◌-◌, ℤ, List, [], length}
use Rattle.std.specs.List.{flat_map, range_with_len}
use Rattle.mapping.specs.Mapping.{Mapping}
use Rattle.segment.specs.Flat.{FlatDocument}
use Rattle.tree_json.specs.Value.{JsonValue}
use Rattle.flattener.specs.Walked.{numbers_of, keywords_of, words_of, texts_of}

pub record Added (old new : FlatDocument) (ns : List (ℕ × List ℤ)) (ks : List (ℕ × List (List ℕ))) (ws : List ((ℕ × List ℕ) × List ℕ)) (ts : List ℕ) : Type 0 where
  pub scope : new.scope ≡ old.scope
  pub numbers : new.numbers ≡ old.numbers ++ ns
  pub keywords : new.keywords ≡ old.keywords ++ ks
  pub words : new.words ≡ old.words ++ ws
  pub texts : new.texts ≡ old.texts ++ ts

abbrev pub Adds : Mapping → ℕ → ℕ → JsonValue → ℕ → FlatDocument → FlatDocument → Type 0
Adds m g s v f old new = Added old new (numbers_of m g s v f) (keywords_of m g s v f) (words_of m g s v f) (texts_of m g s v f)

-- a document with no values yet
abbrev pub begun : ℕ → FlatDocument
begun s = record { scope = s; numbers = []; keywords = []; words = []; texts = [] }

-- the fields from a number on
abbrev pub left_from : Mapping → ℕ → List ℕ
left_from m at = range_with_len at (length m.fields - at)

-- a document that has what the fields before a number add
pub record IsBegun (m : Mapping) (g s : ℕ) (v : JsonValue) (at : ℕ) (d : FlatDocument) : Type 0 where
  pub scope : d.scope ≡ s
  pub numbers : d.numbers ++ flat_map (numbers_of m g s v) (left_from m at) ≡ flat_map (numbers_of m g s v) (range_with_len 0 (length m.fields))
  pub keywords : d.keywords ++ flat_map (keywords_of m g s v) (left_from m at) ≡ flat_map (keywords_of m g s v) (range_with_len 0 (length m.fields))
  pub words : d.words ++ flat_map (words_of m g s v) (left_from m at) ≡ flat_map (words_of m g s v) (range_with_len 0 (length m.fields))
  pub texts : d.texts ++ flat_map (texts_of m g s v) (left_from m at) ≡ flat_map (texts_of m g s v) (range_with_len 0 (length m.fields))
