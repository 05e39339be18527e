-- How many stored sources inner hits may cost.
use Rattle.std.specs.Prelude.{ℕ, ◌+◌, List, [], ◌∷◌}
use Rattle.query_ast.specs.Pages.{Pages, no_pages, with_page, Hits, no_hits, with_hit}
use Rattle.query_ast.specs.declared.hit.Level.{Level}

-- a tree has no place inside another object
abbrev pub is_tree : List Level → ℕ
is_tree [] = 1
is_tree (level ∷ levels) = 0

-- the joined trees among the hits of pages and of the pages inside them
abbrev mutual
  pub joined_in : Pages → ℕ
  joined_in no_pages = 0
  joined_in (with_page name hits total rest) = joined_among hits + joined_in rest

  pub joined_among : Hits → ℕ
  joined_among no_hits = 0
  joined_among (with_hit head pages rest) = is_tree head.levels + joined_in pages + joined_among rest
