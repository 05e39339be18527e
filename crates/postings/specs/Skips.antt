-- Entries of long lists whose places are kept, so that a cursor leaps to them.
use Rattle.std.specs.Prelude.{◌≡◌, ℕ, ◌<◌, List, length, drop}
use Rattle.std.specs.List.{All, flat_map}
use Rattle.part_text.specs.Front.{first_u32}
use Rattle.part_text.specs.Places.{row}
use Rattle.term_table.specs.Part.{posting_text}
use Rattle.postings.specs.Kept.{postings_of, list_text}
use Rattle.postings.specs.declared.skips.Skip.{Skip}
use Rattle.postings.specs.declared.skips.SkipList.{SkipList}

-- an entry of a list, by its index, its document and how far it stands behind the front of the list
pub record IsSkip (text : List ℕ) (skip : Skip) : Type 0 where
  pub inside : skip.at < length (postings_of text)
  pub document : first_u32 (drop skip.offset text) ≡ skip.document
  pub here : drop skip.offset text ≡ flat_map posting_text (drop skip.at (postings_of text))

-- entries of lists that stand in bytes behind their terms, each list by the ordinal of its term
abbrev pub AreSkips : List ℕ → List ℕ → List SkipList → Type 0
AreSkips bytes places lists = All (λ (list : SkipList). All (IsSkip (list_text (row places bytes list.ordinal))) list.skips.items) lists
