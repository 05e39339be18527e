-- The trees that a view is searched for, and what a search may read of them.
use Rattle.std.specs.Prelude.{ℕ, ◌+◌, List}
use Rattle.std.specs.List.{sum_by}
use Rattle.flattener.specs.StandsFor.{Marked, ViewStandsFor}
use Rattle.inner_hits.specs.Hits.{AllReadBack}
use Rattle.inner_hits.specs.Steps.{joined_in}
use Rattle.mapping.specs.Mapping.{Mapping}
use Rattle.query_ast.specs.Pages.{pages_of}
use Rattle.query_ast.specs.declared.hit.Hit.{Hit}
use Rattle.query_ast.specs.declared.hit.HitPage.{HitPage}
use Rattle.segment.specs.Live.{EntryState}
use Rattle.tree_objects.specs.Tree.{IsLiveList, Tree}
use Rattle.view_objects.specs.Hits.{live_trees}

-- The view stands for these trees; the source of each live one is read back from its text, and the live ones stand by sequence
-- number, no two with one id.
pub record AreSearched (m : Mapping) (view : List EntryState) (trees : List (List (Marked Tree))) : Type 0 where
  pub stands : ViewStandsFor m view trees
  pub read : AllReadBack (live_trees trees)
  pub numbered : IsLiveList (live_trees trees)

-- a hit that is shown costs its own source and those of the joined trees among its inner hits
abbrev pub hit_reads : Hit → ℕ
hit_reads hit = 1 + joined_in (pages_of hit.inner)

abbrev pub page_reads : HitPage → ℕ
page_reads page = sum_by hit_reads page.hits
