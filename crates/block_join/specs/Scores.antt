-- Scores of documents: for each document of a segment its score, or none where it doesn't hit.
use Rattle.std.specs.Prelude.{ℕ, ◌-◌, Bool, cond, List, [], ◌∷◌, ◌++◌, length, take, drop, replicate, Option, None}
use Rattle.std.specs.List.{flat_map}
use Rattle.std.specs.Option.{option_to_list}

-- one score for the documents of a set, and none for the others
abbrev pub filled : Option ℕ → List Bool → List (Option ℕ)
filled score [] = []
filled score (flag ∷ flags) = cond flag score None ∷ filled score flags

-- the scores of the documents from `from` up to `end`, of those that hit
abbrev pub between : List (Option ℕ) → ℕ → ℕ → List ℕ
between scores from end = flat_map option_to_list (take (end - from) (drop from scores))

-- scores that are read in order: those of all documents, and the document from which on they are read
pub record Standing : Type 0 where
  pub scores : List (Option ℕ)
  pub from : ℕ

-- scores that are given in order: those of the first documents, and how many documents there are
pub record Begun : Type 0 where
  pub done : List (Option ℕ)
  pub len : ℕ

-- the scores of the documents before `end`, where those that come after the given ones have none
abbrev pub padded : ℕ → List (Option ℕ) → List (Option ℕ)
padded end done = done ++ replicate (end - length done) None
