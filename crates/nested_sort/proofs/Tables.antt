-- The rows of a table are those of the objects that were found.
use Rattle.std.specs.Prelude.{◌≡◌, ℕ, zero, suc, ◌+◌, ◌<◌, ◌==◌, ℤ, pos, Bool, true, false, List, [], ◌∷◌, ◌++◌, length, map, get_or, slice_get, Option, Some, None, option_map, refl}
use Rattle.std.specs.List.{range_with_len}
use Rattle.std.specs.Option.{option_map_or}
use Rattle.std.proofs.Common.{arith, ap, sym, subst, ◌∙◌, append_assoc}
use Rattle.std.proofs.Math.Seq.{get_or-append_seam}
use Rattle.std.proofs.lemmas.List.{length-append, length-map, map-append, same_lists}
use Rattle.std.proofs.lemmas.List.FromFn.{get_or-map-range_with_len, length-map-range_with_len}
use Rattle.block_bits.specs.Blocks.{documents_of}
use Rattle.flattener.specs.Block.{root_of_tree}
use Rattle.flattener.specs.StandsFor.{EntryStandsFor, Marked, ViewStandsFor}
use Rattle.hit_order.specs.Table.{key_at, place_at, row_at, table_of}
use Rattle.hit_order.specs.declared.column.Column.{Column}
use Rattle.hit_order.specs.declared.column.RowPlace.{RowPlace}
use Rattle.mapping.specs.IsMapping.{IsMapping}
use Rattle.mapping.specs.Mapping.{Mapping}
use Rattle.query_ast.specs.SortKey.{sort_key}
use Rattle.query_ast.specs.declared.sort.Key.{Key}
use Rattle.query_ast.specs.declared.sort.KeyRow.{KeyRow}
use Rattle.query_ast.specs.declared.sort.Sort.{Sort}
use Rattle.query_eval.specs.Folds.{scopes_in}
use Rattle.query_eval.specs.Found.{live_trees}
use Rattle.segment.specs.Flat.{FlatRoot, flat_root}
use Rattle.segment.specs.Live.{EntryState, LiveState, root_of as block_root}
use Rattle.segment_parts.specs.declared.columns.Columns.{Columns}
use Rattle.stored_sources.specs.Roots.{root_of}
use Rattle.stored_sources.specs.declared.root.Root.{Root}
use Rattle.tree_joins.specs.Seen.{at_scope, if_live, scopes_of, seen}
use Rattle.tree_objects.specs.Object.{Object, scope, tree_of}
use Rattle.tree_objects.specs.Tree.{Tree}
use Rattle.view_objects.specs.declared.hit.Hit.{Hit}
use Rattle.view_objects.specs.Hits.{IsInTree, any_object, document_object, hit_if, hits_from, hits_in, hits_of, no_object, object_at, objects_in}
use Rattle.nested_sort.specs.Documents.{number_in, number_of_hit, place_of_hit}
use Rattle.nested_sort.specs.Keyed.{keyed_row, keyed_rows, rows_from, rows_in, scored}
use Rattle.nested_sort.specs.Listed.{AreDocs, AreKeyed, IsDocOf, no_hit}
use Rattle.nested_sort.proofs.Documents.{Document, documents, documents_are, map_map}
use Rattle.nested_sort.proofs.Alike.{by_test}

one_longer : {A : Type 0} (xs : List A) (x : A) (k : ℕ) → length xs ≡ k → length (xs ++ x ∷ []) ≡ k + 1
one_longer xs x k same = length-append xs (x ∷ []) ∙ ap (λ n. n + 1) same

-- ---- rows by their hits

module _ (m : Mapping) (n : ℕ) (live : List Tree) (sorts : List Sort) (given : Object → Option ℕ) where
  -- the row of a hit that stands for an object
  abbrev row_of : Object → Hit → KeyRow
  row_of o hit = keyed_row m live sorts hit.place hit.doc (o, hit.score)

  abbrev told : Document → Option ℕ
  told d = if_live (at_scope n given) d.0 d.1

  abbrev told_pair : Document → Option (Object × ℕ)
  told_pair d = if_live (at_scope n (scored given)) d.0 d.1

  abbrev paired : Object → Option ℕ → Option (Object × ℕ)
  paired o score = option_map (λ s. (o, s)) score

  same_choice : (live : Bool) (o : Object) → if_live (at_scope n (scored given)) live o ≡ paired o (if_live (at_scope n given) live o)
  same_choice true o = by_test (scope o == n) (λ held. rw held refl) (λ failed. rw failed refl)
  same_choice false o = refl

  rows_step : (place doc : ℕ) (o : Object) (score : Option ℕ) (rest : List (Option (Object × ℕ))) (objects : List Object) (hits : List Hit) → get_or objects doc no_object ≡ o
      → rows_from m live sorts place (suc doc) rest ≡ map (λ (hit : Hit). row_of (get_or objects hit.doc no_object) hit) hits
      → rows_from m live sorts place doc (paired o score ∷ rest) ≡ map (λ (hit : Hit). row_of (get_or objects hit.doc no_object) hit) (hit_if place doc score ++ hits)
  rows_step place doc o None rest objects hits here more = more
  rows_step place doc o (Some s) rest objects hits here more =
      ap (λ row. row ∷ rows_from m live sorts place (suc doc) rest) (ap (λ own. keyed_row m live sorts place doc (own, s)) (sym here))
      ∙ ap (λ rows. keyed_row m live sorts place doc (get_or objects doc no_object, s) ∷ rows) more

  entry_rows : (objects before : List Object) (place doc : ℕ) (ds : List Document) → length before ≡ doc → objects ≡ before ++ map (λ (d : Document). d.1) ds
      → rows_from m live sorts place doc (map told_pair ds) ≡ map (λ (hit : Hit). row_of (get_or objects hit.doc no_object) hit) (hits_from place doc (map told ds))
  entry_rows objects before place doc [] long same = refl
  entry_rows objects before place doc (d ∷ ds) long same =
      let here : get_or objects doc no_object ≡ d.1 =
      ap (λ xs. get_or xs doc no_object) same
      ∙ ap (λ k. get_or (before ++ d.1 ∷ map (λ (d : Document). d.1) ds) k no_object) (sym long)
      ∙ get_or-append_seam before d.1 (map (λ (d : Document). d.1) ds) no_object in
      let next : doc + 1 ≡ suc doc = omega arith in
      ap (λ pair. rows_from m live sorts place doc (pair ∷ map told_pair ds)) (same_choice d.0 d.1)
      ∙ rows_step place doc d.1 (told d) (map told_pair ds) objects (hits_from place (doc + 1) (map told ds)) here
      (ap (λ k. rows_from m live sorts place k (map told_pair ds)) (sym next)
      ∙ entry_rows objects (before ++ d.1 ∷ []) place (doc + 1) ds (one_longer before d.1 doc long) (same ∙ sym (append_assoc before (d.1 ∷ []) (map (λ (d : Document). d.1) ds))))

  entry_found : (place : ℕ) (ts : List (Marked Tree)) → rows_from m live sorts place 0 (seen m (at_scope n (scored given)) ts) ≡ map (λ (hit : Hit). row_of (document_object m ts hit.doc) hit) (hits_from place 0 (seen m (at_scope n given) ts))
  entry_found place ts =
      ap (rows_from m live sorts place 0) (documents_are m (if_live (at_scope n (scored given))) ts)
      ∙ entry_rows (objects_in m ts) [] place 0 (documents m ts) refl (documents_are m any_object ts)
      ∙ ap (λ scores. map (λ (hit : Hit). row_of (document_object m ts hit.doc) hit) (hits_from place 0 scores)) (sym (documents_are m (if_live (at_scope n given)) ts))

  placed : (all : List (List (Marked Tree))) (place doc : ℕ) (scores : List (Option ℕ))
      → map (λ (hit : Hit). row_of (document_object m (get_or all place []) hit.doc) hit) (hits_from place doc scores) ≡ map (λ (hit : Hit). row_of (object_at m all hit.place hit.doc) hit) (hits_from place doc scores)
  placed all place doc [] = refl
  placed all place doc (None ∷ scores) = placed all place (doc + 1) scores
  placed all place doc (Some s ∷ scores) = ap (λ rows. keyed_row m live sorts place doc (document_object m (get_or all place []) doc, s) ∷ rows) (placed all place (doc + 1) scores)

  view_rows : (all before : List (List (Marked Tree))) (place : ℕ) (entries : List (List (Marked Tree))) → length before ≡ place → all ≡ before ++ entries
      → rows_in m n live sorts given place entries ≡ map (λ (hit : Hit). row_of (object_at m all hit.place hit.doc) hit) (hits_of place (map (seen m (at_scope n given)) entries))
  view_rows all before place [] long same = refl
  view_rows all before place (ts ∷ entries) long same =
      let here : get_or all place [] ≡ ts =
      ap (λ xs. get_or xs place []) same ∙ ap (λ k. get_or (before ++ ts ∷ entries) k []) (sym long) ∙ get_or-append_seam before ts entries [] in
      let next : place + 1 ≡ suc place = omega arith in
      ap (λ rows. rows ++ rows_in m n live sorts given (suc place) entries)
      (entry_found place ts
      ∙ ap (λ own. map (λ (hit : Hit). row_of (document_object m own hit.doc) hit) (hits_from place 0 (seen m (at_scope n given) ts))) (sym here)
      ∙ placed all place 0 (seen m (at_scope n given) ts))
      ∙ ap (λ rows. map (λ (hit : Hit). row_of (object_at m all hit.place hit.doc) hit) (hits_from place 0 (seen m (at_scope n given) ts)) ++ rows)
      (ap (λ k. rows_in m n live sorts given k entries) (sym next)
      ∙ view_rows all (before ++ ts ∷ []) (place + 1) entries (one_longer before ts place long) (same ∙ sym (append_assoc before (ts ∷ []) entries)))
      ∙ sym (map-append (λ (hit : Hit). row_of (object_at m all hit.place hit.doc) hit) (hits_from place 0 (seen m (at_scope n given) ts)) (hits_of (place + 1) (map (seen m (at_scope n given)) entries)))

  pub rows_by_hits : (trees : List (List (Marked Tree))) → rows_in m n live sorts given 0 trees ≡ map (λ (hit : Hit). row_of (object_at m trees hit.place hit.doc) hit) (hits_in (map (seen m (at_scope n given)) trees))
  rows_by_hits trees = view_rows trees [] 0 trees refl refl

-- ---- the number of a tree

module _ (m : Mapping) (c : Columns) (bits : LiveState) (ts : List (Marked Tree)) (stands : EntryStandsFor m c bits ts) where
  numbers_same : map (λ (root : Root). root.number) c.roots ≡ map (λ (t : Marked Tree). t.item.number) ts
  unfolding root_of_tree
  numbers_same =
      sym (map_map (λ (root : FlatRoot). root.number) flat_root c.roots)
      ∙ ap (map (λ (root : FlatRoot). root.number)) stands.roots
      ∙ map_map (λ (root : FlatRoot). root.number) (λ (t : Marked Tree). root_of_tree m t.item) ts

  number_at : (k : ℕ) (t : Marked Tree) → slice_get ts k ≡ Some t → (root_of c.roots k).number ≡ t.item.number
  number_at k t is =
      by c.roots ts numbers_same k is
    where
      by : (roots : List Root) (ts : List (Marked Tree)) → map (λ (root : Root). root.number) roots ≡ map (λ (t : Marked Tree). t.item.number) ts → (k : ℕ) → slice_get ts k ≡ Some t → (root_of roots k).number ≡ t.item.number
      by roots [] same k is = absurd (let no : ⊥ = cc in no)
      by [] (u ∷ ts) same k is = absurd (let no : ⊥ = cc in no)
      by (r ∷ roots) (u ∷ ts) same zero is = let own : r.number ≡ u.item.number = cc in own ∙ ap (λ (v : Marked Tree). v.item.number) (let e : u ≡ t = cc in e)
      by (r ∷ roots) (u ∷ ts) same (suc k) is = by roots ts (let rest : map (λ (root : Root). root.number) roots ≡ map (λ (t : Marked Tree). t.item.number) ts = cc in rest) k is

  pub number_is : (doc : ℕ) → scopes_in c ≡ scopes_of m ts → IsInTree m ts doc → number_in c doc ≡ (tree_of (document_object m ts doc)).number
  number_is doc scopes it =
      ap (λ ss. (root_of c.roots (block_root (documents_of ss 0) doc)).number) scopes
      ∙ number_at (block_root (documents_of (scopes_of m ts) 0) doc) it.marked it.at
      ∙ sym (ap (λ (tree : Tree). tree.number) it.tree)

-- ---- the table

-- the row of a hit
abbrev pub hit_row : Mapping → List (List (Marked Tree)) → List Sort → Hit → KeyRow
hit_row m trees sorts hit = keyed_row m (live_trees trees) sorts hit.place hit.doc (object_at m trees hit.place hit.doc, hit.score)

module _ (m : Mapping) (view : List EntryState) (trees : List (List (Marked Tree))) (stand : ViewStandsFor m view trees)
    (scopes_law : (c : Columns) (bits : LiveState) (ts : List (Marked Tree)) → EntryStandsFor m c bits ts → scopes_in c ≡ scopes_of m ts)
    (count_law : (c : Columns) (bits : LiveState) (ts : List (Marked Tree)) → EntryStandsFor m c bits ts → length (objects_in m ts) ≡ c.documents)
    (tree_law : (ts : List (Marked Tree)) (doc : ℕ) → IsMapping m → doc < length (objects_in m ts) → IsInTree m ts doc) where
  number_by : (view : List EntryState) (trees : List (List (Marked Tree))) → ViewStandsFor m view trees → (hit : Hit) (place : ℕ) → IsDocOf view place hit.doc
      → option_map_or (λ (entry : EntryState). number_in entry.columns hit.doc) (slice_get view place) 0 ≡ (tree_of (object_at m trees place hit.doc)).number
  number_by [] trees stand hit place there = absurd there
  number_by (e ∷ view) [] stand hit place there = absurd stand
  number_by (e ∷ view) (ts ∷ trees) stand hit zero there =
      number_is m e.columns e.live ts stand.0 hit.doc (scopes_law e.columns e.live ts stand.0)
      (tree_law ts hit.doc stand.0.mapping (subst (λ count. hit.doc < count) (sym (count_law e.columns e.live ts stand.0)) there))
  number_by (e ∷ view) (ts ∷ trees) stand hit (suc place) there = number_by view trees stand.1 hit place there

  number_of : (hit : Hit) → IsDocOf view hit.place hit.doc → number_of_hit view hit ≡ (tree_of (object_at m trees hit.place hit.doc)).number
  number_of hit there = number_by view trees stand hit hit.place there

  abbrev row_from : List Key → RowPlace → KeyRow
  row_from keys p = record { keys = keys; place = p.place; doc = p.doc; number = p.number }

  abbrev row_with : Hit → List Key → ℤ → KeyRow
  row_with hit keys number = record { keys = keys; place = hit.place; doc = hit.doc; number = number }

  row_is : (sorts : List Sort) (hits : List Hit) (columns : List Column) (k : ℕ) (d : KeyRow) → AreKeyed m trees sorts hits columns → AreDocs view hits → k < length hits
      → get_or (map (row_at columns (map (place_of_hit view) hits)) (range_with_len 0 (length (map (place_of_hit view) hits)))) k d
      ≡ keyed_row m (live_trees trees) sorts (get_or hits k no_hit).place (get_or hits k no_hit).doc (object_at m trees (get_or hits k no_hit).place (get_or hits k no_hit).doc, (get_or hits k no_hit).score)
  row_is sorts hits columns k d keyed docs low =
      let own = get_or hits k no_hit in
      let place : place_at (map (place_of_hit view) hits) k ≡ place_of_hit view own = read (place_of_hit view) hits k (record { place = 0; doc = 0; number = pos 0 }) low in
      get_or-map-range_with_len (row_at columns (map (place_of_hit view) hits)) 0 (length (map (place_of_hit view) hits)) k k d (omega (arith, length-map hits (place_of_hit view))) (omega arith)
      ∙ ap (row_from (map (λ (column : Column). key_at column k) columns)) place
      ∙ ap (λ keys. row_with own keys (pos (number_of_hit view own))) (keyed.keys k low)
      ∙ ap (λ number. row_with own (map (sort_key m (live_trees trees) own.score (object_at m trees own.place own.doc)) sorts) (pos number)) (number_of own (docs k no_hit low))
    where
      read : (f : Hit → RowPlace) (hits : List Hit) (k : ℕ) (d : RowPlace) → k < length hits → get_or (map f hits) k d ≡ f (get_or hits k no_hit)
      read f [] k d low = absurd (omega arith)
      read f (hit ∷ hits) zero d low = refl
      read f (hit ∷ hits) (suc k) d low = read f hits k d (omega arith)

  -- the rows of hits with their keys and places
  pub table_rows : (sorts : List Sort) (hits : List Hit) (columns : List Column) (places : List RowPlace) → places ≡ map (place_of_hit view) hits → AreKeyed m trees sorts hits columns → AreDocs view hits → (table_of columns places).rows ≡ map (hit_row m trees sorts) hits
  unfolding table_of
  table_rows sorts hits columns places at_places keyed docs =
      let made = map (row_at columns (map (place_of_hit view) hits)) (range_with_len 0 (length (map (place_of_hit view) hits))) in
      let long : length made ≡ length hits = length-map-range_with_len (row_at columns (map (place_of_hit view) hits)) 0 (length (map (place_of_hit view) hits)) ∙ length-map hits (place_of_hit view) in
      ap (λ (ps : List RowPlace). map (row_at columns ps) (range_with_len 0 (length ps))) at_places
      ∙ same_lists made (map (hit_row m trees sorts) hits) (long ∙ sym (length-map hits (hit_row m trees sorts)))
      (λ k d low. row_is sorts hits columns k d keyed docs (omega arith) ∙ sym (read (hit_row m trees sorts) hits k d (omega arith)))
    where
      read : (f : Hit → KeyRow) (hits : List Hit) (k : ℕ) (d : KeyRow) → k < length hits → get_or (map f hits) k d ≡ f (get_or hits k no_hit)
      read f [] k d low = absurd (omega arith)
      read f (hit ∷ hits) zero d low = refl
      read f (hit ∷ hits) (suc k) d low = read f hits k d (omega arith)

  -- those of all that was found
  pub found_rows : (n : ℕ) (given : List Tree → Object → Option ℕ) (sorts : List Sort) (found : List (List (Option ℕ))) → found ≡ map (seen m (at_scope n (given (live_trees trees)))) trees → map (hit_row m trees sorts) (hits_in found) ≡ keyed_rows m n sorts given trees
  unfolding keyed_rows
  found_rows n given sorts found seen_all = ap (λ own. map (hit_row m trees sorts) (hits_in own)) seen_all ∙ sym (rows_by_hits m n (live_trees trees) sorts (given (live_trees trees)) trees)
