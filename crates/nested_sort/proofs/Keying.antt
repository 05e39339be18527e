-- The keys of documents are the keys of their objects.
use Rattle.std.specs.Prelude.{◌≡◌, ℕ, zero, suc, ◌<◌, Bool, true, false, List, [], ◌∷◌, ◌++◌, length, map, get_or, slice_get, Option, Some, None, IsTrue, refl}
use Rattle.std.specs.List.{AllByRecursion, flat_map}
use Rattle.std.specs.Option.{option_map_or}
use Rattle.std.proofs.Common.{arith, ap, sym, subst, ◌∙◌, append_assoc}
use Rattle.std.proofs.lemmas.Bool.{false≢true}
use Rattle.std.proofs.lemmas.List.Elements.{All-from_recursion, recursion_from_All}
use Rattle.std.proofs.lemmas.Simd.{map-map}
use Rattle.doc_values.specs.Values.{values_of}
use Rattle.flattener.specs.Flat.{flat_of as flat_of_object, has_numbers, is_keyword}
use Rattle.flattener.specs.StandsFor.{EntryStandsFor, Marked, ViewStandsFor}
use Rattle.hit_order.specs.Table.{keys_of}
use Rattle.hit_order.specs.declared.column.Column.{Column}
use Rattle.mapping_body.specs.declared.kind.Kind.{Kind}
use Rattle.mapping_body.specs.declared.kind.Kind.TheVariants.{Text, Keyword, Long, Boolean, Date, Object as Plain, Nested, Join}
use Rattle.mapping.specs.IsMapping.{IsMapping}
use Rattle.mapping.specs.Mapping.{Mapping, kind_at}
use Rattle.query_ast.specs.Clause.{Clause}
use Rattle.query_ast.specs.Page.{first_key}
use Rattle.query_ast.specs.Resolved.{AreSorts, IsChain, IsSortKey}
use Rattle.query_ast.specs.SortKey.{chain_objects, key_by, key_or_missing, mode_value, sort_key}
use Rattle.query_ast.specs.Uses.{uses_of}
use Rattle.query_ast.specs.declared.sort.Chain.{Chain}
use Rattle.query_ast.specs.declared.sort.Key.{Key}
use Rattle.query_ast.specs.declared.sort.Key.TheVariants.{Null as NoKey}
use Rattle.query_ast.specs.declared.sort.Missing.{Missing}
use Rattle.query_ast.specs.declared.sort.Sort.{Sort}
use Rattle.query_ast.specs.declared.sort.SortKey.{SortKey}
use Rattle.query_ast.specs.declared.sort.SortKey.TheVariants.{Score, Field}
use Rattle.query_ast.specs.declared.sort.SortMode.{SortMode}
use Rattle.query_eval.specs.Folds.{scopes_in}
use Rattle.query_eval.specs.Found.{AreLong, live_trees}
use Rattle.segment.specs.Flat.{flat_of}
use Rattle.segment.specs.Live.{EntryState, LiveState}
use Rattle.segment_parts.specs.declared.columns.Columns.{Columns}
use Rattle.tree_joins.specs.Seen.{scopes_of}
use Rattle.tree_objects.specs.Object.{Object}
use Rattle.tree_objects.specs.Tree.{Tree}
use Rattle.tree_objects.specs.Values.{values}
use Rattle.view_objects.specs.declared.hit.Hit.{Hit}
use Rattle.view_objects.specs.Hits.{document_object, object_at}
use Rattle.nested_sort.specs.Documents.{AllLong, Question, all_keys, behind_key, clause_keys, key_in, key_of_hit, number_value, score_key, text_value, values_at}
use Rattle.nested_sort.specs.Filters.{AreFound, filter_at, filter_of, filters_of, filters_of_key}
use Rattle.nested_sort.specs.Inside.{AreAt, IsAt, behind_chain, chain_docs, filters_left, later_filters}
use Rattle.nested_sort.specs.Listed.{AreDocs, AreHits, AreKeyed, IsDocOf, IsHitAt, no_hit}
use Rattle.nested_sort.specs.Reached.{first_key_of}
use Rattle.nested_sort.proofs.Chains.{InsideLaw, chain_is}
use Rattle.nested_sort.proofs.Documents.{Stands, documents, flat_is, flats_are, stands_if}
use Rattle.nested_sort.proofs.Alike.{Reordered, mode_each}
use Rattle.nested_sort.proofs.Shown.{numbers_shown, texts_shown}

-- ---- what filters find has the length of each entry

pub long_found : (m : Mapping) (view : List EntryState) (filters : List (ℕ × Clause)) (found : List (List (List (Option ℕ)))) → AreFound m view filters found → AllLong view found
long_found m view [] [] are = tt
long_found m view [] (scores ∷ found) are = absurd are
long_found m view (filter ∷ filters) [] are = absurd are
long_found m view (filter ∷ filters) (scores ∷ found) are = (are.0.long, long_found m view filters found are.1)

entry_long : (view : List EntryState) (scores : List (List (Option ℕ))) (place : ℕ) (entry : EntryState) → AreLong view scores → slice_get view place ≡ Some entry → IsAt place entry.columns.documents scores
entry_long [] scores place entry long at = absurd (let no : ⊥ = cc in no)
entry_long (e ∷ view) [] place entry long at = absurd long
entry_long (e ∷ view) (s ∷ scores) zero entry long at =
    let same : e ≡ entry = cc in
    record { there = omega arith; long = long.0 ∙ ap (λ (own : EntryState). own.columns.documents) same }
entry_long (e ∷ view) (s ∷ scores) (suc place) entry long at =
    let more = entry_long view scores place entry long.1 at in
    record { there = (let low = more.there in omega arith); long = more.long }

pub all_at : (view : List EntryState) (found : List (List (List (Option ℕ)))) (place : ℕ) (entry : EntryState) → AllLong view found → slice_get view place ≡ Some entry → AreAt place entry.columns.documents found
all_at view [] place entry long at = tt
all_at view (scores ∷ found) place entry long at = (entry_long view scores place entry long.0 at, all_at view found place entry long.1 at)

pub later_long : (view : List EntryState) (found : List (List (List (Option ℕ)))) → AllLong view found → AllLong view (later_filters found)
later_long view [] long = tt
later_long view (scores ∷ found) long = long.1

-- ---- the entry at a place

record At (m : Mapping) (view : List EntryState) (trees : List (List (Marked Tree))) (place : ℕ) : Type 0 where
  pub entry : EntryState
  pub is : slice_get view place ≡ Some entry
  pub stands : EntryStandsFor m entry.columns entry.live (get_or trees place [])

entry_at : (m : Mapping) (view : List EntryState) (trees : List (List (Marked Tree))) (place doc : ℕ) → ViewStandsFor m view trees → IsDocOf view place doc → At m view trees place
entry_at m [] trees place doc stand there = absurd there
entry_at m (e ∷ view) [] place doc stand there = absurd stand
entry_at m (e ∷ view) (ts ∷ trees) zero doc stand there = record { entry = e; is = refl; stands = stand.0 }
entry_at m (e ∷ view) (ts ∷ trees) (suc place) doc stand there =
    let more = entry_at m view trees place doc stand.1 there in
    record { entry = more.entry; is = more.is; stands = more.stands }

-- the key of a hit in a list
read : (key : Hit → Key) (hits : List Hit) (at : ℕ) (d : Key) → at < length hits → get_or (map key hits) at d ≡ key (get_or hits at no_hit)
read key [] at d low = absurd (omega arith)
read key (hit ∷ hits) zero d low = refl
read key (hit ∷ hits) (suc at) d low = read key hits at d (omega arith)

-- what is found by the filters behind those of a chain
left_found : (m : Mapping) (view : List EntryState) (p : ℕ) (filter : Option Clause) (more : List (ℕ × Clause)) (found : List (List (List (Option ℕ)))) → AreFound m view (filter_at p filter ++ more) found → AreFound m view more (filters_left filter found)
left_found m view p None more found are = are
left_found m view p (Some c) more [] are = absurd are
left_found m view p (Some c) more (scores ∷ found) are = are.1

behind_found : (m : Mapping) (view : List EntryState) (chain : List Chain) (more : List (ℕ × Clause)) (found : List (List (List (Option ℕ)))) → AreFound m view (flat_map filter_of chain ++ more) found → AreFound m view more (behind_chain chain found)
behind_found m view [] more found are = are
behind_found m view (s ∷ chain) more found are =
    behind_found m view chain more (filters_left s.filter found)
    (left_found m view s.scope s.filter (flat_map filter_of chain ++ more) found (subst (λ fs. AreFound m view fs found) (append_assoc (filter_of s) (flat_map filter_of chain) more) are))

-- ---- the key of a document

-- a field that can be sorted by is a keyword or has numbers
numbers_sorted : (kind : Kind) → IsTrue (uses_of kind).sorted → is_keyword kind ≡ false → has_numbers kind ≡ true
numbers_sorted Text sorted other = absurd (false≢true sorted)
numbers_sorted Keyword sorted other = absurd (false≢true (sym other))
numbers_sorted Long sorted other = refl
numbers_sorted Boolean sorted other = refl
numbers_sorted Date sorted other = refl
numbers_sorted Plain sorted other = absurd (false≢true sorted)
numbers_sorted Nested sorted other = absurd (false≢true sorted)
numbers_sorted Join sorted other = absurd (false≢true sorted)

module _ (m : Mapping) (law : IsMapping m → InsideLaw m) (view : List EntryState) (trees : List (List (Marked Tree))) (stand : ViewStandsFor m view trees)
    (scopes_law : (c : Columns) (bits : LiveState) (ts : List (Marked Tree)) → EntryStandsFor m c bits ts → scopes_in c ≡ scopes_of m ts) where
  shown_at : (c : Columns) (f : ℕ) (written : Bool) → f < length m.fields → IsTrue (uses_of (kind_at m f)).sorted → is_keyword (kind_at m f) ≡ written
      → (d : ℕ) (o : Object) → flat_of c d ≡ flat_of_object m o → Reordered (values_at written c f d) (values m f o)
  shown_at c f true low sorted is d o flat = subst (λ document. Reordered (map text_value (values_of f document.keywords)) (values m f o)) (sym flat) (texts_shown m o f low is)
  shown_at c f false low sorted is d o flat = subst (λ document. Reordered (map number_value (values_of f document.numbers)) (values m f o)) (sym flat) (numbers_shown m o f low (numbers_sorted (kind_at m f) sorted is))

  -- the mode of what the documents inside show is that of what the objects show
  mode_is : (c : Columns) (bits : LiveState) (place : ℕ) (f : ℕ) (mode : SortMode) (chain : List Chain) (found : List (List (List (Option ℕ)))) (more : List (ℕ × Clause)) (n doc : ℕ)
      → EntryStandsFor m c bits (get_or trees place []) → f < length m.fields → IsTrue (uses_of (kind_at m f)).sorted → IsChain m n chain → AreFound m view (flat_map filter_of chain ++ more) found → Stands m (get_or trees place []) n doc
      → mode_value mode (flat_map (values_at (is_keyword (kind_at m f)) c f) (chain_docs place (scopes_in c) chain found n doc))
      ≡ mode_value mode (flat_map (values m f) (chain_objects m (live_trees trees) chain (document_object m (get_or trees place []) doc)))
  mode_is c bits place f mode chain found more n doc stands low sorted is are here =
      let ts = get_or trees place [] in
      let docs = chain_docs place (scopes_of m ts) chain found n doc in
      let reached = chain_is m (law stands.mapping) view trees stand place chain n doc more found is are here in
      ap (λ scopes. mode_value mode (flat_map (values_at (is_keyword (kind_at m f)) c f) (chain_docs place scopes chain found n doc))) (scopes_law c bits ts stands)
      ∙ mode_each (values_at (is_keyword (kind_at m f)) c f) (values m f) (document_object m ts) docs (each docs reached.low) mode
      ∙ ap (λ os. mode_value mode (flat_map (values m f) os)) reached.are
    where
      each : (ds : List ℕ) → AllByRecursion (λ d. d < length (documents m (get_or trees place []))) ds → AllByRecursion (λ d. Reordered (values_at (is_keyword (kind_at m f)) c f d) (values m f (document_object m (get_or trees place []) d))) ds
      each [] below = tt
      each (d ∷ ds) below = (
        shown_at c f (is_keyword (kind_at m f)) low sorted refl d (document_object m (get_or trees place []) d)
            (flat_is m c bits (get_or trees place []) d stands (subst (λ count. d < count) (flats_are m c bits (get_or trees place []) stands) below.0)),
        each ds below.1,
      )

  -- ---- the key of a hit

  key_at_hit : (missing : Missing) (key : SortKey) (n : ℕ) (found : List (List (List (Option ℕ)))) (more : List (ℕ × Clause)) (hits : List Hit) (at : ℕ) → at < length hits → AreDocs view hits → AreHits m n trees hits
      → IsSortKey m n missing key → AreFound m view (filters_of_key key ++ more) found
      → get_or (clause_keys m view hits n found missing key) at NoKey ≡ key_by m (live_trees trees) missing (get_or hits at no_hit).score (object_at m trees (get_or hits at no_hit).place (get_or hits at no_hit).doc) key
  key_at_hit missing Score n found more hits at low docs are is filters = read score_key hits at NoKey low
  key_at_hit missing (Field f mode chain) n found more hits at low docs are is filters =
      let own = get_or hits at no_hit in
      let q : Question = record { field = f; mode = mode; chain = chain; filters = found; scope = n; missing = missing } in
      let e = entry_at m view trees own.place own.doc stand (docs at no_hit low) in
      let hit = are at no_hit low in
      read (key_of_hit (is_keyword (kind_at m f)) view q) hits at NoKey low
      ∙ ap (λ (o : Option EntryState). option_map_or (λ (entry : EntryState). key_in (is_keyword (kind_at m f)) entry.columns own.place q own.doc) o NoKey) e.is
      ∙ ap (key_or_missing missing) (mode_is e.entry.columns e.entry.live own.place f mode chain found more n own.doc e.stands is.0 is.1 is.4 filters (stands_if m (get_or trees own.place []) n own.doc hit.given hit.score hit.is))

  behind_is : (key : SortKey) (more : List (ℕ × Clause)) (found : List (List (List (Option ℕ)))) → AreFound m view (filters_of_key key ++ more) found → AreFound m view more (behind_key key found)
  behind_is Score more found are = are
  behind_is (Field f mode chain) more found are = behind_found m view chain more found are

  keys_at : (sorts : List Sort) (n : ℕ) (found : List (List (List (Option ℕ)))) (hits : List Hit) (at : ℕ) → at < length hits → AreDocs view hits → AreHits m n trees hits → AreSorts m n sorts → AreFound m view (filters_of sorts) found
      → map (λ (keys : List Key). get_or keys at NoKey) (all_keys m view hits n sorts found) ≡ map (sort_key m (live_trees trees) (get_or hits at no_hit).score (object_at m trees (get_or hits at no_hit).place (get_or hits at no_hit).doc)) sorts
  unfolding sort_key
  keys_at [] n found hits at low docs are is filters = refl
  keys_at (sort ∷ sorts) n found hits at low docs are is filters =
      ap (λ key. key ∷ map (λ (keys : List Key). get_or keys at NoKey) (all_keys m view hits n sorts (behind_key sort.key found)))
      (key_at_hit sort.missing sort.key n found (filters_of sorts) hits at low docs are is.0 filters)
      ∙ ap (λ keys. key_by m (live_trees trees) sort.missing (get_or hits at no_hit).score (object_at m trees (get_or hits at no_hit).place (get_or hits at no_hit).doc) sort.key ∷ keys)
      (keys_at sorts n (behind_key sort.key found) hits at low docs are is.1 (behind_is sort.key (filters_of sorts) found filters))

  pub are_keyed : (sorts : List Sort) (n : ℕ) (found : List (List (List (Option ℕ)))) (hits : List Hit) (columns : List Column) → AreDocs view hits → AreHits m n trees hits → AreSorts m n sorts → AreFound m view (filters_of sorts) found
      → map (λ (column : Column). keys_of column.keys) columns ≡ all_keys m view hits n sorts found → AreKeyed m trees sorts hits columns
  are_keyed sorts n found hits columns docs are is filters same = record {
    keys = λ at low.
        sym (map-map (λ (keys : List Key). get_or keys at NoKey) (λ (column : Column). keys_of column.keys) columns)
        ∙ ap (map (λ (keys : List Key). get_or keys at NoKey)) same
        ∙ keys_at sorts n found hits at low docs are is filters;
  }

  -- the first key of a hit's row
  first_is : (sorts : List Sort) (n : ℕ) (found : List (List (List (Option ℕ)))) (hit : Hit) → IsDocOf view hit.place hit.doc → IsHitAt m n trees hit.place hit.doc → AreSorts m n sorts → AreFound m view (filters_of sorts) found
      → first_key (map (sort_key m (live_trees trees) hit.score (object_at m trees hit.place hit.doc)) sorts) ≡ first_key_of m view n found sorts hit
  unfolding sort_key
  first_is [] n found hit doc is sorted filters = refl
  first_is (sort ∷ sorts) n found hit doc is sorted filters =
      sym (key_at_hit sort.missing sort.key n found (filters_of sorts) (hit ∷ []) 0 (omega arith)
      (All-from_recursion (λ (h : Hit). IsDocOf view h.place h.doc) (hit ∷ []) (doc, tt))
      (All-from_recursion (λ (h : Hit). IsHitAt m n trees h.place h.doc) (hit ∷ []) (is, tt))
      sorted.0 filters)

  pub first_keys : (sorts : List Sort) (n : ℕ) (found : List (List (List (Option ℕ)))) (hits : List Hit) → AreDocs view hits → AreHits m n trees hits → AreSorts m n sorts → AreFound m view (filters_of sorts) found
      → AllByRecursion (λ (hit : Hit). first_key (map (sort_key m (live_trees trees) hit.score (object_at m trees hit.place hit.doc)) sorts) ≡ first_key_of m view n found sorts hit) hits
  first_keys sorts n found hits docs are sorted filters =
      by hits (recursion_from_All (λ (hit : Hit). IsDocOf view hit.place hit.doc) hits docs) (recursion_from_All (λ (hit : Hit). IsHitAt m n trees hit.place hit.doc) hits are)
    where
      by : (hs : List Hit) → AllByRecursion (λ (hit : Hit). IsDocOf view hit.place hit.doc) hs → AllByRecursion (λ (hit : Hit). IsHitAt m n trees hit.place hit.doc) hs
          → AllByRecursion (λ (hit : Hit). first_key (map (sort_key m (live_trees trees) hit.score (object_at m trees hit.place hit.doc)) sorts) ≡ first_key_of m view n found sorts hit) hs
      by [] docs are = tt
      by (hit ∷ hs) docs are = (first_is sorts n found hit docs.0 are.0 sorted filters, by hs docs.1 are.1)
