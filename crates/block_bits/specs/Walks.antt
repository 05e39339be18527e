-- A walk over the documents of a set, in order.
use Rattle.std.specs.Prelude.{◌≡◌, ℕ, ◌+◌, ◌-◌, ◌*◌, ◌/◌, ◌^◌, ◌<◌, ◌≤◌, Bool, false, List, slice_index, Option, IfSome, IfNone}
use Rattle.std.specs.Int.{bit_at}
use Rattle.block_bits.specs.Flags.{is_set, IsTight}

-- the set that is walked over, and the document from which on the walk goes
pub record Walking : Type 0 where
  pub documents : List Bool
  pub from : ℕ

-- ---- how a walk is kept: its u64 in hand

-- `word` has the documents of word `place` that are at or after `from`, and none in between is set
pub record IsSearched (words : List ℕ) (from place word : ℕ) : Type 0 where
  pub low : from ≤ 64 * (place + 1)
  pub fits : word < 2 ^ 64
  pub bits : (i : ℕ) → i < 64 → from ≤ 64 * place + i → bit_at word i ≡ bit_at (slice_index words place) i
  pub under : (i : ℕ) → i < 64 → 64 * place + i < from → bit_at word i ≡ 0
  pub before : (k : ℕ) → from ≤ k → k < 64 * place → is_set words k ≡ false

pub record IsWalk (words : List ℕ) (len from place word : ℕ) : Type 0 where
  pub tight : IsTight words len
  pub within : from ≤ len
  pub searched : IsSearched words from place word

-- the lowest bit of word `place` is document `at`
pub record IsFirstIn (place word at : ℕ) : Type 0 where
  pub low : 64 * place ≤ at
  pub high : at < 64 * (place + 1)
  pub here : bit_at word (at - 64 * place) ≡ 1
  pub before : (i : ℕ) → 64 * place + i < at → bit_at word i ≡ 0

-- word `place` has no document before `end`, and one from there on unless it is 0
pub record HasNoneBefore (place word end : ℕ) : Type 0 where
  pub none : (i : ℕ) → i < 64 → 64 * place + i < end → bit_at word i ≡ 0
  pub reaches : 0 < word → end ≤ 64 * (place + 1)

-- a search up to `end`, by its word in hand and the document that it found there
pub record IsAnswered (words : List ℕ) (from place word end : ℕ) (found : Option ℕ) : Type 0 where
  pub some : 0 < end
  pub searched : IsSearched words from place word
  pub up_to : word ≡ 0 → (end - 1) / 64 ≤ place
  pub first : IfSome found (λ at. IsFirstIn place word at × (at < end))
  pub none : IfNone found (HasNoneBefore place word end)
