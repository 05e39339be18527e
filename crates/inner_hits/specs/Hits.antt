-- What stands behind hits: objects, rows, and what a call is told of the object that it is asked about.
use Rattle.std.specs.Prelude.{◌≡◌, ℕ, ◌<◌, ◌||◌, Bool, true, false, List}
use Rattle.std.specs.List.{All, AllByRecursion}
use Rattle.flattener.specs.StandsFor.{Marked, ViewStandsFor}
use Rattle.mapping.specs.Mapping.{Mapping}
use Rattle.nested_sort.specs.Listed.{IsHitAt}
use Rattle.query_ast.specs.Definition.{Definition, definition, Definitions, no_definitions, with_definition}
use Rattle.query_ast.specs.Inner.{Inner}
use Rattle.query_ast.specs.InnerHits.{hit_by, inner_pages, page_by}
use Rattle.query_ast.specs.Pages.{HitPart, PagePart}
use Rattle.query_ast.specs.Rows.{Row, row_of}
use Rattle.query_ast.specs.declared.inner.InnerOver.{InnerOver}
use Rattle.query_ast.specs.declared.inner.InnerOver.TheVariants.{Below, Children, Parents, Ignored}
use Rattle.query_ast.specs.declared.sort.Sort.{Sort}
use Rattle.segment.specs.Live.{EntryState}
use Rattle.tree_json.specs.Reading.{reading, value}
use Rattle.tree_json.specs.Text.{compact}
use Rattle.tree_json.specs.Value.{JsonValue}
use Rattle.tree_objects.specs.Object.{tree_of}
use Rattle.tree_objects.specs.Tree.{Tree}
use Rattle.view_objects.specs.Hits.{live_trees, object_at}
use Rattle.view_objects.specs.declared.hit.Hit.{Hit}

-- the row of a hit
abbrev pub row_at : Mapping → List (List (Marked Tree)) → List Sort → Hit → Row
row_at m trees sorts hit = row_of m (live_trees trees) sorts (object_at m trees hit.place hit.doc) hit.score

-- the stored source of each tree is read as what it is, as that of each source that was read is
abbrev pub ReadsBack : Tree → Type 0
ReadsBack tree = reading (compact tree.source) ≡ value tree.source

abbrev pub AllReadBack : List Tree → Type 0
AllReadBack trees = AllByRecursion ReadsBack trees

-- Trees that the view stands for, of which the document stands for a live object of the scope; `source` is what the root of
-- its tree holds, and the stored sources are read as what they are.
pub record IsAsked (m : Mapping) (view : List EntryState) (trees : List (List (Marked Tree))) (n place doc : ℕ) (source : JsonValue) : Type 0 where
  pub stands : ViewStandsFor m view trees
  pub kept : AllReadBack (live_trees trees)
  pub hit : IsHitAt m n trees place doc
  pub holds : source ≡ (tree_of (object_at m trees place doc)).source

-- only a definition over a nested path shows objects of its owner's own tree
abbrev pub over_below : InnerOver → Bool
over_below (Below path) = true
over_below (Children relation) = false
over_below (Parents relation) = false
over_below Ignored = false

abbrev pub is_below : Definition Inner → Bool
is_below (definition def owned) = over_below def.over

abbrev pub some_below : Definitions Inner → Bool
some_below no_definitions = false
some_below (with_definition d ds) = is_below d || some_below ds

-- the same of an owner of definitions, whose source is known only where it is `needed`
pub record IsOwner (m : Mapping) (view : List EntryState) (trees : List (List (Marked Tree))) (n place doc : ℕ) (needed : Bool) (source : JsonValue) : Type 0 where
  pub stands : ViewStandsFor m view trees
  pub kept : AllReadBack (live_trees trees)
  pub hit : IsHitAt m n trees place doc
  pub holds : needed ≡ true → source ≡ (tree_of (object_at m trees place doc)).source

-- the hits of nested objects are inside one tree, whose source that is
abbrev pub HaveSource : Mapping → List (List (Marked Tree)) → ℕ → List Hit → JsonValue → Type 0
HaveSource m trees n hits source = 0 < n → All (λ (hit : Hit). source ≡ (tree_of (object_at m trees hit.place hit.doc)).source) hits

-- ---- what is shown, but for which page it stands on

-- a hit of a definition, with the pages of what that owns
abbrev pub shown_by : Mapping → List (List (Marked Tree)) → Definition Inner → Hit → HitPart
shown_by m trees (definition def owned) hit = hit_by m def.source (inner_pages m (live_trees trees) owned) (row_at m trees def.sort hit)

unfoldable pub shown_as : Mapping → List (List (Marked Tree)) → Definition Inner → Hit → HitPart
shown_as m trees d hit = shown_by m trees d hit

-- the page of a definition among rows
abbrev pub page_among : Mapping → List Tree → Definition Inner → List Row → PagePart
page_among m live (definition def owned) rows = page_by m def (inner_pages m live owned) rows

unfoldable pub page_in : Mapping → List Tree → Definition Inner → List Row → PagePart
page_in m live d rows = page_among m live d rows
