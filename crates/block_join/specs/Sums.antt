-- Scores that are kept as sums: each part of a sum gives its score to the documents of its set.
use Rattle.std.specs.Prelude.{◌≡◌, ℕ, ◌≤◌, Bool, List, [], ◌∷◌, length, map, replicate, Option, Some, None, is_some}
use Rattle.std.specs.List.{All}
use Rattle.score_math.specs.declared.score.TheConstants.{SCORE_CAP}
use Rattle.block_join.specs.Merge.{paired, put_together}
use Rattle.block_join.specs.Scores.{filled}
use Rattle.block_join.specs.declared.rule.Rule.TheVariants.{Either}
use Rattle.block_join.specs.declared.parts.Part.{Part}
use Rattle.block_join.specs.declared.parts.Parts.{Parts}

-- the sums with those of further parts
abbrev pub summed_from : List (Option ℕ) → List Part → List (Option ℕ)
summed_from sums [] = sums
summed_from sums (part ∷ parts) = summed_from (paired (put_together Either) sums (filled (Some part.score) part.set)) parts

-- the sums of all documents, none where a document is in no part
abbrev pub summed : Parts → List (Option ℕ)
summed it = summed_from (replicate it.len None) it.parts.items

-- a part of a sum over so many documents
pub record IsPart (len : ℕ) (part : Part) : Type 0 where
  pub long : length part.set ≡ len
  pub capped : part.score ≤ SCORE_CAP

abbrev pub AreParts : Parts → Type 0
AreParts it = All (IsPart it.len) it.parts.items

-- a set of just the documents that have a sum
pub record IsSum (flags : List Bool) (it : Parts) : Type 0 where
  pub parts : AreParts it
  pub over : flags ≡ map is_some (summed it)

abbrev pub or_zero : Option ℕ → ℕ
or_zero None = 0
or_zero (Some score) = score
