use Rattle.std.proofs.Common.{◌≡◌, ◌+◌, ◌*◌, ◌≤◌, ◌++◌, List, map, drop}
use Rattle.flattener.specs.StandsFor.{Marked, ViewStandsFor}
use Rattle.query_ast.specs.Definition.{definition_size, definitions_of, definitions_size}
use Rattle.query_ast.specs.Inner.View.{inner_of}
use Rattle.query_ast.specs.Pages.{hits_of}
use Rattle.query_ast.specs.Pages.View.{hit_part}
use Rattle.reply_text.specs.Weight.{hits_weight}
use Rattle.tree_json.specs.View.{view}
use Rattle.tree_objects.specs.Tree.{Tree}
use Rattle.view_objects.specs.Hits.{live_trees}
use Rattle.nested_sort.specs.Listed.{AreHits}
use Rattle.inner_hits.specs.Hits.{AllReadBack, HaveSource, shown_as}
use Rattle.inner_hits.specs.Steps.{joined_among}
use Rattle.inner_hits.proofs.pages.+pages.Given as goal

abbrev pub decreases-add_pages : goal.decreases-add_pages
decreases-add_pages g l = 7 * definitions_size (definitions_of (map inner_of l.definitions.now)) + 6

abbrev pub decreases-page : goal.decreases-page
decreases-page g l = 7 * definition_size (inner_of l.def.now) + 5

abbrev pub decreases-below_page : goal.decreases-below_page
decreases-below_page g l = 7 * definition_size (inner_of l.def.now) + 4

abbrev pub decreases-children_page : goal.decreases-children_page
decreases-children_page g l = 7 * definition_size (inner_of l.def.now) + 4

abbrev pub decreases-parents_page : goal.decreases-parents_page
decreases-parents_page g l = 7 * definition_size (inner_of l.def.now) + 4

abbrev pub decreases-shown_page : goal.decreases-shown_page
decreases-shown_page g l = 7 * definition_size (inner_of l.def.now) + 3

abbrev pub decreases-shown_hits : goal.decreases-shown_hits
decreases-shown_hits g l = 7 * definition_size (inner_of l.def.now) + 2

abbrev pub decreases-shown_hit : goal.decreases-shown_hit
decreases-shown_hit g l = 7 * definition_size (inner_of l.def.now) + 1

abbrev pub decreases-nested_hit : goal.decreases-nested_hit
decreases-nested_hit g l = 7 * definition_size (inner_of l.def.now)

abbrev pub decreases-tree_hit : goal.decreases-tree_hit
decreases-tree_hit g l = 7 * definition_size (inner_of l.def.now)

abbrev pub invariant-shown_hits-hits : goal.invariant-shown_hits-hits
invariant-shown_hits-hits g l =
    (l.fn.room ≡ l.room + hits_weight (hits_of (map hit_part l.shown.items)))
    × ((trees : List (List (Marked Tree))) → ViewStandsFor l.mapping l.view trees → AllReadBack (live_trees trees) → AreHits l.mapping l.scope trees l.hits → HaveSource l.mapping trees l.scope l.hits (view l.source)
    → (map hit_part l.shown.items ++ map (shown_as l.mapping trees (inner_of l.def)) (drop l.hit-index l.hits) ≡ map (shown_as l.mapping trees (inner_of l.def)) l.hits)
    × (l.steps + joined_among (hits_of (map (shown_as l.mapping trees (inner_of l.def)) (drop l.hit-index l.hits))) ≤ l.fn.steps + joined_among (hits_of (map (shown_as l.mapping trees (inner_of l.def)) l.hits))))
