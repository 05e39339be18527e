-- Ids that were met, while they get numbers.
use Rattle.std.specs.Prelude.{ℕ, ◌≡◌, ◌<◌, ◌≤◌, List, [], length, map, slice_get, slice_index_or, Some}
use Rattle.std.specs.Hash.FoldHasher.{initial, write, finish}
use Rattle.std.specs.List.{All, range_with_len}
use Rattle.std.specs.List.Sorted.{IsPermutation}
use Rattle.join_ordinals.specs.Ordinals.{IsNumbered, StandOnce}
use Rattle.join_ordinals.specs.declared.numbers.Met.{Met}

-- equal ids have one hash; what else it is, nothing rests on
abbrev pub hash_of : List ℕ → ℕ
hash_of id = finish (write initial id)

abbrev pub HasHash : Met → Type 0
HasHash one = one.hash ≡ hash_of one.id.now

-- the id at an index
abbrev pub id_at : List Met → ℕ → List ℕ
id_at met at = slice_index_or (map (λ one. one.id.now) met) at []

-- its place among the ids that were met
abbrev pub place_at : List Met → ℕ → ℕ
place_at met at = slice_index_or (map (λ one. one.place) met) at 0

-- all ids that were met, in some order
pub record AreMet (ids : List (List ℕ)) (met : List Met) : Type 0 where
  pub hashed : All HasHash met
  pub own : All (λ one. slice_get ids one.place ≡ Some one.id.now) met
  pub places : IsPermutation (range_with_len 0 (length ids)) (map (λ one. one.place) met)

-- equal ids stand together, each place once
pub record AreGrouped (met : List Met) : Type 0 where
  pub hashed : All HasHash met
  pub within : All (λ one. one.place < length met) met
  pub apart : (i j : ℕ) → i < length met → j < length met → place_at met i ≡ place_at met j → i ≡ j
  pub together : (i k j : ℕ) → i ≤ k → k ≤ j → j < length met → id_at met i ≡ id_at met j → id_at met k ≡ id_at met j

-- the first of those with the id at an index
pub record IsHead (met : List Met) (at head : ℕ) : Type 0 where
  pub up : head ≤ at
  pub same : id_at met head ≡ id_at met at
  pub none : (j : ℕ) → j < head → id_at met j ≡ id_at met at → ⊥

-- the place of the first of those with the id at an index
pub record IsFirst (met : List Met) (firsts : List ℕ) (at : ℕ) : Type 0 where
  pub head : ℕ
  pub is_head : IsHead met at head
  pub first : slice_index_or firsts (place_at met at) 0 ≡ place_at met head

-- for each place the first place of the same id
pub record AreHeads (ids : List (List ℕ)) (firsts : List ℕ) : Type 0 where
  pub long : length firsts ≡ length ids
  pub up : (place : ℕ) → place < length ids → slice_index_or firsts place 0 ≤ place
  pub same : (place : ℕ) → place < length ids → slice_get ids (slice_index_or firsts place 0) ≡ slice_get ids place
  pub alike : (i j : ℕ) → i < length ids → j < length ids → slice_get ids i ≡ slice_get ids j → slice_index_or firsts i 0 ≡ slice_index_or firsts j 0

-- a number for each id that was met: its index among those that differ
pub record AreNumbers (ids : List (List ℕ)) (numbers : List ℕ) (count : ℕ) : Type 0 where
  pub kept : List (List ℕ)
  pub once : StandOnce kept
  pub many : length kept ≡ count
  pub own : (place : ℕ) (id : List ℕ) → slice_get ids place ≡ Some id → IsNumbered kept (Some id) (slice_get numbers place)
