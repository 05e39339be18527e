use Rattle.std.proofs.Common.{◌≡◌, ℕ, List, Option, ap, filter, map, refl, sym, subst, ◌∙◌}
use Rattle.std.specs.Prelude.{option_map}
use Rattle.std.specs.List.{AllByRecursion}
use Rattle.hit_order.specs.Reach.{first_of_row}
use Rattle.hit_order.specs.Table.{KeyTable, keys_of_row, number_of_row}
use Rattle.query_ast.specs.Page.{direction_of, page_of}
use Rattle.query_ast.specs.declared.sort.KeyRow.{KeyRow}
use Rattle.query_ast.specs.declared.sort.Sort.{Sort}
use Rattle.query_eval.specs.Found.{live_trees}
use Rattle.segment.specs.Live.{EntryState}
use Rattle.view_objects.specs.declared.hit.Hit.{Hit}
use Rattle.view_objects.specs.Hits.{hits_in}
use Rattle.nested_sort.specs.Documents.{AllLong, place_of_hit}
use Rattle.nested_sort.specs.Filters.{filters_of}
use Rattle.nested_sort.specs.Listed.{AreDocs}
use Rattle.nested_sort.specs.Reached.{HavePages, first_key_of}
use Rattle.nested_sort.proofs.Entries.{table_directions}
use Rattle.nested_sort.proofs.Found.{docs_chosen, docs_found, hits_chosen, hits_found}
use Rattle.nested_sort.proofs.Keying.{first_keys, long_found}
use Rattle.nested_sort.proofs.Tables.{found_rows, hit_row, table_rows}
use Rattle.nested_sort.proofs.rows.rows_of.Goals as goal

pub hits_within-requires-clause-filters : goal.hits_within-requires-clause-filters
hits_within-requires-clause-filters c =
    subst (λ (view : List EntryState). AllLong view c.args.filters.now) (sym c.entries.ensures.entries) (long_found c.args.mapping.now c.args.view.now (filters_of c.args.sorts.now) c.args.filters.now c.requires.filters)

pub columns-requires-clause-hits : goal.columns-requires-clause-hits
columns-requires-clause-hits c =
    let chosen = c.in_ok-hits.ensures.chosen in
    docs_chosen chosen.0 c.args.found.now c.as_slice-listed.result.now (c.as_slice-listed.ensures.value ∙ chosen.1 ∙ ap (λ (f : List (List (Option ℕ))). filter chosen.0 (hits_in f)) c.as_slice.ensures) c.args.view.now c.requires.found

pub places-requires-clause-docs : goal.places-requires-clause-docs
places-requires-clause-docs c =
    let chosen = c.in_ok-hits.ensures.chosen in
    subst (λ (view : List EntryState). AreDocs view c.as_slice-listed.result.now) (sym c.entries-2.ensures.entries)
    (docs_chosen chosen.0 c.args.found.now c.as_slice-listed.result.now (c.as_slice-listed.ensures.value ∙ chosen.1 ∙ ap (λ (f : List (List (Option ℕ))). filter chosen.0 (hits_in f)) c.as_slice.ensures) c.args.view.now c.requires.found)

pub returns-clause-directions : goal.returns-clause-directions
returns-clause-directions c =
    ap (λ (t : KeyTable). t.directions) c.of.ensures ∙ table_directions c.in_ok-columns.columns.items c.in_ok-places.places.items ∙ c.in_ok-columns.ensures.directions

pub returns-clause-rows : goal.returns-clause-rows
returns-clause-rows c = λ given trees from size seen stand within.
    let m = c.args.mapping.now in
    let view = c.args.view.now in
    let found = c.args.found.now in
    let sorts = c.args.sorts.now in
    let n = c.args.scope in
    let filters = c.args.filters.now in
    let most = c.args.most in
    let after : Option KeyRow = option_map (λ row. row.now) c.args.after in
    let items = c.in_ok-hits.hits.items in
    let hits = c.as_slice-listed.result.now in
    let chosen = c.in_ok-hits.ensures.chosen in
    let are : hits ≡ filter chosen.0 (hits_in found) = c.as_slice-listed.ensures.value ∙ chosen.1 ∙ ap (λ (f : List (List (Option ℕ))). filter chosen.0 (hits_in f)) c.as_slice.ensures in
    let all = seen.are trees stand in
    let g = given (live_trees trees) in
    let rows : c.of.result.rows ≡ map (hit_row m trees sorts) hits =
    ap (λ (t : KeyTable). t.rows) c.of.ensures
    ∙ table_rows m view trees stand
    (λ columns bits ts own. c.documents_are_of_objects.ensures.scopes m columns bits ts own)
    (λ columns bits ts own. c.documents_are_of_objects.ensures.objects m columns bits ts own)
    (λ ts doc is low. c.documents_are_of_objects.ensures.trees m ts doc is low)
    sorts hits c.in_ok-columns.columns.items c.in_ok-places.places.items
    (c.in_ok-places.ensures ∙ ap (λ (v : List EntryState). map (place_of_hit v) hits) c.entries-2.ensures.entries)
    (c.in_ok-columns.ensures.keys trees stand (hits_chosen chosen.0 found hits are m n g trees all)) (docs_chosen chosen.0 found hits are view c.requires.found) in
    let agree : AllByRecursion (λ (hit : Hit). first_of_row (hit_row m trees sorts hit) ≡ first_key_of m view n filters sorts hit) (hits_in found) =
    first_keys m
    (λ is k p owner own ts place doc score above hit. c.hits_are_objects.ensures.inside m k p owner own ts place doc score is above hit)
    view trees stand
    (λ columns bits ts own. c.documents_are_of_objects.ensures.scopes m columns bits ts own)
    sorts n filters (hits_in found) (docs_found view found (hits_in found) c.requires.found refl) (hits_found m n g trees found (hits_in found) all refl) c.requires.sorts c.requires.filters in
    let pages : HavePages m view n filters sorts after most (hits_in found) hits =
    subst (λ (hs : List Hit). HavePages m view n filters sorts after most (hits_in found) hs) (sym c.as_slice-listed.ensures.value)
    (subst (λ (f : List (List (Option ℕ))). HavePages m view n filters sorts after most (hits_in f) items) c.as_slice.ensures
    (subst (λ (s : List Sort). HavePages m view n filters s after most (hits_in c.as_slice.result.now) items) c.as_slice-2.ensures
    (subst (λ (v : List EntryState). HavePages m v n filters c.as_slice-2.result.now after most (hits_in c.as_slice.result.now) items) c.entries.ensures.entries c.in_ok-hits.ensures.pages))) in
    ap (page_of keys_of_row number_of_row (map direction_of sorts) after from size) rows
    ∙ pages (hit_row m trees sorts) from size agree within
    ∙ ap (page_of keys_of_row number_of_row (map direction_of sorts) after from size)
    (found_rows m view trees stand
    (λ columns bits ts own. c.documents_are_of_objects.ensures.scopes m columns bits ts own)
    (λ columns bits ts own. c.documents_are_of_objects.ensures.objects m columns bits ts own)
    (λ ts doc is low. c.documents_are_of_objects.ensures.trees m ts doc is low)
    n given sorts found all)
