-- Documents of entries that have no positions, eight bytes each.
use Rattle.std.specs.Prelude.{ℕ, ◌*◌, ◌<◌, ◌≤◌, List, length, drop}
use Rattle.part_text.specs.Front.{first_u32}

-- the document of entry `at`
abbrev pub document_at : List ℕ → ℕ → ℕ
document_at entries at = first_u32 (drop (8 * at) entries)

-- so many entries stand there, and their documents ascend
pub record AreEntries (entries : List ℕ) (count : ℕ) : Type 0 where
  pub room : 8 * count ≤ length entries
  pub ascending : (one other : ℕ) → one < other → other < count → document_at entries one < document_at entries other

-- the documents from place `from` up to place `end` come before `to`
abbrev pub AreBelow : List ℕ → ℕ → ℕ → ℕ → Type 0
AreBelow entries from end to = (at : ℕ) → from ≤ at → at < end → document_at entries at < to
