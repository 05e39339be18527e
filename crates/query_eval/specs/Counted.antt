-- How many documents a query finds.
use Rattle.std.specs.Prelude.{◌≡◌, ℕ, ◌+◌, Bool, false, List, [], ◌∷◌, map, count_by, sum_by, Option, is_some}
use Rattle.block_bits.specs.Blocks.{documents_of}
use Rattle.block_bits.specs.Flags.{is_marked}
use Rattle.block_join.specs.Kept.{reached}
use Rattle.mapping.specs.Mapping.{Mapping}
use Rattle.segment.specs.Live.{EntryState}
use Rattle.segment_parts.specs.declared.columns.Columns.{Columns}
use Rattle.tree_objects.specs.Object.{Object}
use Rattle.tree_objects.specs.Tree.{Tree}
use Rattle.query_eval.specs.Folds.{scopes_in}
use Rattle.query_eval.specs.Found.{IsSeen}

-- how many documents of all entries have a score
abbrev pub hit_count : List (List (Option ℕ)) → ℕ
hit_count scores = sum_by (λ (own : List (Option ℕ)). count_by is_marked (map is_some own)) scores

-- Whichever trees the view stands for: so many live objects of the scope are given something.
pub record IsCount (m : Mapping) (view : List EntryState) (n : ℕ) (given : List Tree → Object → Option ℕ) (count : ℕ) : Type 0 where
  pub those : List (List (Option ℕ))
  pub seen : IsSeen m view n given those
  pub counted : count ≡ hit_count those

-- how many documents of a scope have some of a set behind the document of the scope before them
abbrev pub up_marks : Columns → ℕ → List Bool → ℕ
up_marks columns to flags = count_by is_marked (reached false (documents_of (scopes_in columns) to) flags)

-- those of all entries, by the documents that have a score
abbrev pub up_total : ℕ → List EntryState → List (List (Option ℕ)) → ℕ
up_total to [] scores = 0
up_total to (entry ∷ entries) [] = 0
up_total to (entry ∷ entries) (own ∷ scores) = up_marks entry.columns to (map is_some own) + up_total to entries scores
