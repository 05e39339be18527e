-- The page of a search, from the rows of a view.
use Rattle.std.proofs.Common.{◌≡◌, ℕ, ◌+◌, List as Seq, [], ◌∷◌, length, map, Option, refl, sym, ap, subst, ◌∙◌}
use Rattle.std.specs.List.{filter_map, sum_by}
use Rattle.flattener.specs.StandsFor.{Marked, ViewStandsFor}
use Rattle.hit_order.specs.Table.{keys_of_row, number_of_row}
use Rattle.mapping.specs.Mapping.{Mapping}
use Rattle.nested_sort.specs.Keyed.{keyed_rows}
use Rattle.inner_hits.specs.Steps.{joined_in}
use Rattle.query_ast.specs.Definition.{definitions_of}
use Rattle.query_ast.specs.InnerHits.{inner_pages}
use Rattle.query_ast.specs.Hit.{those_hit}
use Rattle.query_ast.specs.Joined.{roots}
use Rattle.query_ast.specs.Page.{direction_of, page_of}
use Rattle.query_ast.specs.Pages.{pages_of}
use Rattle.query_ast.specs.Rows.{Row, keys_of, number_of, paged, rows_of}
use Rattle.query_ast.specs.Search.{found_rows, hit_of, hit_page}
use Rattle.query_ast.specs.declared.hit.Hit.{Hit}
use Rattle.query_ast.specs.declared.search.SearchBody.{SearchBody}
use Rattle.query_ast.specs.declared.sort.Direction.{Direction}
use Rattle.query_ast.specs.declared.sort.KeyRow.{KeyRow}
use Rattle.query_eval.specs.Found.{IsFound, live_trees, score_by}
use Rattle.segment.specs.Live.{EntryState}
use Rattle.tree_objects.specs.Object.{Object}
use Rattle.tree_objects.specs.Tree.{Tree}
use Rattle.search_page.specs.Hits.{AreRootRows, row_reads, shown_at}
use Rattle.search_page.specs.Searched.{hit_reads, page_reads}
use Rattle.search_page.proofs.Agreeing.{Agree, agree_page, agree_shown}
use Rattle.search_page.proofs.Empty.{rows_long}
use Rattle.search_page.proofs.Rows.{OneRoot, Same, Scores, rows_agree}
use Rattle.search_page.proofs.Shown.{sum_first}

module _ (m : Mapping) (one_root : OneRoot m) (view : Seq EntryState) (found : Seq Scores) (body : SearchBody) (is_found : IsFound m view 0 body.query found) (trees : Seq (Seq (Marked Tree))) (stands : ViewStandsFor m view trees) where
  abbrev live : Seq Tree
  live = live_trees trees

  abbrev rows : Seq KeyRow
  rows = keyed_rows m 0 body.sort (score_by m body.query) trees

  abbrev pub shown : Seq KeyRow
  shown = page_of keys_of_row number_of_row (map direction_of body.sort) body.after body.from body.size rows

  abbrev pub own_shown : Seq Row
  own_shown = paged body.sort body.after body.from body.size (found_rows m live body)

  abbrev pub Pair : KeyRow → Row → Type 0
  Pair = Same m one_root view found trees body

  pub rows_are : Agree Pair rows (found_rows m live body)
  unfolding keyed_rows
  rows_are = rows_agree m one_root view found trees body [] view [] trees 0 refl refl refl (is_found.are trees stands) refl stands

  pub shown_are : Agree Pair shown own_shown
  shown_are = agree_page Pair keys_of_row number_of_row keys_of number_of (λ row own it. it.keys) (λ row own it. it.number) (map direction_of body.sort) body.after body.from body.size rows (found_rows m live body) rows_are

  pub at_roots : (some : Seq KeyRow) (own : Seq Row) → Agree Pair some own → AreRootRows m trees some
  at_roots [] [] are = tt
  at_roots [] (o ∷ own) are = absurd are
  at_roots (row ∷ some) [] are = absurd are
  at_roots (row ∷ some) (o ∷ own) are = (are.0.at_root, at_roots some own are.1)

  -- as many sources are read for the rows as for the hits
  pub reads_are : (some : Seq KeyRow) (own : Seq Row) → Agree Pair some own → sum_by (row_reads m trees body) some ≡ sum_by hit_reads (map (hit_of m live body) own)
  reads_are [] [] are = refl
  reads_are [] (o ∷ own) are = absurd are
  reads_are (row ∷ some) [] are = absurd are
  reads_are (row ∷ some) (o ∷ own) are =
      sum_first (row_reads m trees body) row some
      ∙ ap (λ (object : Object). (1 + joined_in (pages_of (inner_pages m live (definitions_of body.inner) object))) + sum_by (row_reads m trees body) some) are.0.object
      ∙ ap (λ (n : ℕ). hit_reads (hit_of m live body o) + n) (reads_are some own are.1)
      ∙ sym (sum_first hit_reads (hit_of m live body o) (map (hit_of m live body) own))

  -- from rows that were made for the query, with the directions of the clauses and the row to go on behind
  module _ (all page : Seq KeyRow) (directions : Seq Direction) (after : Option KeyRow) (own : directions ≡ map direction_of body.sort) (behind : after ≡ body.after)
      (are : page_of keys_of_row number_of_row (map direction_of body.sort) after body.from body.size all ≡ page_of keys_of_row number_of_row (map direction_of body.sort) after body.from body.size rows)
      (cut : page ≡ page_of keys_of_row number_of_row directions after body.from body.size all) where
    page_is : page ≡ shown
    page_is =
        cut
        ∙ ap (λ (ds : Seq Direction). page_of keys_of_row number_of_row ds after body.from body.size all) own
        ∙ are
        ∙ ap (λ (row : Option KeyRow). page_of keys_of_row number_of_row (map direction_of body.sort) row body.from body.size rows) behind

    pub page_at_roots : AreRootRows m trees page
    page_at_roots = subst (AreRootRows m trees) (sym page_is) (at_roots shown own_shown shown_are)

    pub page_found : (hits : Seq Hit) (total : ℕ) → hits ≡ filter_map (shown_at m view found trees body) page → total ≡ length (those_hit m live body.query (roots live)) → record { hits = hits; total = total } ≡ hit_page m live body
    unfolding hit_page rows_of
    page_found hits total shown_by count =
        ap (λ (hs : Seq Hit). record { hits = hs; total = total })
        (shown_by ∙ ap (filter_map (shown_at m view found trees body)) page_is
        ∙ agree_shown Pair (shown_at m view found trees body) (hit_of m live body) (λ row own it. it.shown) shown own_shown shown_are)
        ∙ ap (λ (n : ℕ). record { hits = map (hit_of m live body) own_shown; total = n })
        (count ∙ sym (rows_long m live body.query body.sort (roots live)))

    pub page_reads_are : sum_by (row_reads m trees body) page ≡ page_reads (hit_page m live body)
    unfolding hit_page
    page_reads_are = ap (sum_by (row_reads m trees body)) page_is ∙ reads_are shown own_shown shown_are
