-- Sets of documents that may be lent, as scores.
use Rattle.std.specs.Prelude.{ℕ, List, Option, Some}
use Rattle.block_join.specs.Scores.{filled}
use Rattle.leaf_search.specs.Lent.{set_of}
use Rattle.leaf_search.specs.declared.document_set.DocumentSet.{DocumentSet}

-- each document of a set with the score 1
abbrev pub lent_scores : DocumentSet → List (Option ℕ)
lent_scores set = filled (Some 1) (set_of set)
