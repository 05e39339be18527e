use Rattle.std.proofs.Common.{◌≡◌, ◌+◌, ◌≤◌, List, [], false, take}
use Rattle.std.specs.List.{filter_map, sum_by}
use Rattle.flattener.specs.StandsFor.{Marked}
use Rattle.reply_text.specs.Weight.{whole_weight}
use Rattle.search_page.specs.Hits.{AreRootRows, row_reads, shown_at}
use Rattle.search_page.specs.Searched.{AreSearched}
use Rattle.tree_objects.specs.Tree.{Tree}
use Rattle.search_page.proofs.hits.hits_of.Given as goal

abbrev pub invariant-rows : goal.invariant-rows
invariant-rows g l =
    ((trees : List (List (Marked Tree))) → AreSearched l.mapping l.view trees → AreRootRows l.mapping trees l.rows.rows → l.hits.items ≡ filter_map (shown_at l.mapping l.view l.found trees l.search) (take l.at l.rows.rows))
    × ((trees : List (List (Marked Tree))) → AreSearched l.mapping l.view trees → AreRootRows l.mapping trees l.rows.rows → l.steps ≤ l.fn.steps + sum_by (row_reads l.mapping trees l.search) (take l.at l.rows.rows))
    × (l.search.source ≡ false → l.search.inner ≡ [] → l.steps ≡ l.fn.steps)
    × (l.limit ≡ l.room + sum_by whole_weight l.hits.items)
