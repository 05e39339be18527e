-- Serves proofs: the hit of a row. Its id and number are read from the segment that the row was found in; its source and its
-- inner hits are those of the object that the row's document stands for.
use Rattle.std.specs.Prelude.{◌≡◌, ℕ, suc, pos, ◌+◌, nat_le, Bool, if◌then◌else◌, List, [], ◌∷◌, ◌++◌, map, get_or, slice_get, Option, Some, None, is_some}
use Rattle.std.specs.List.{AllByRecursion}
use Rattle.std.specs.Option.{option_map}
use Rattle.block_bits.specs.Blocks.{documents_of}
use Rattle.block_join.specs.Scores.{filled}
use Rattle.flattener.specs.StandsFor.{Marked}
use Rattle.hit_order.specs.declared.column.RowPlace.{RowPlace}
use Rattle.inner_hits.specs.Steps.{joined_in}
use Rattle.inner_hits.specs.declared.page_refusal.PageRefusal.{PageRefusal}
use Rattle.inner_hits.specs.declared.page_refusal.PageRefusal.TheVariants as refused
use Rattle.mapping.specs.Mapping.{Mapping}
use Rattle.nested_sort.specs.Listed.{IsHitAt}
use Rattle.query_ast.specs.Definition.{definitions_of}
use Rattle.query_ast.specs.InnerHits.{inner_pages, source_of}
use Rattle.query_ast.specs.Pages.{PagePart, pages_of}
use Rattle.query_ast.specs.declared.hit.Hit.{Hit}
use Rattle.query_ast.specs.declared.search.SearchBody.{SearchBody}
use Rattle.query_ast.specs.declared.sort.Key.{Key}
use Rattle.query_ast.specs.declared.sort.Key.TheVariants.{Number}
use Rattle.query_ast.specs.declared.sort.KeyRow.{KeyRow}
use Rattle.query_ast.specs.declared.sort.Sort.{Sort}
use Rattle.query_ast.specs.declared.sort.SortKey.TheVariants.{Score}
use Rattle.reply_text.specs.Weight.{whole_weight}
use Rattle.segment.specs.Flat.{FlatDocument, FlatRoot, flat_root, flats_of}
use Rattle.segment.specs.Live.{EntryState, root_of as block_root}
use Rattle.segment_parts.specs.Text.{marked_places}
use Rattle.segment_parts.specs.declared.columns.Columns.{Columns}
use Rattle.stored_sources.specs.Roots.{root_of as stored_root}
use Rattle.tree_objects.specs.Object.{Object}
use Rattle.tree_objects.specs.Tree.{Tree}
use Rattle.view_objects.specs.Hits.{live_trees, object_at}
use Rattle.search_page.specs.declared.found_refusal.FoundRefusal.{FoundRefusal}
use Rattle.search_page.specs.declared.found_refusal.FoundRefusal.TheVariants.{NoMemory, TooLarge}

-- whether each document is a root's
abbrev pub root_marks : Columns → List Bool
root_marks columns = documents_of (map (λ (document : FlatDocument). document.scope) (flats_of columns)) 0

-- what is stored of the root of a document's block
abbrev pub root_at : Columns → ℕ → FlatRoot
root_at columns doc = flat_root (stored_root columns.roots (block_root (root_marks columns) doc))

-- as a hit, but for what is shown of it
abbrev pub stored_hit : FlatRoot → ℕ → List Key → Hit
stored_hit root score keys = record { id = root.id; number = root.number; score = score; keys = keys; source = None; inner = [] }

abbrev pub score_or_zero : Option ℕ → ℕ
score_or_zero None = 0
score_or_zero (Some score) = score

-- in an entry, from the scores of its documents
abbrev pub hit_in : Option EntryState → List (Option ℕ) → KeyRow → Option Hit
hit_in None scores row = None
hit_in (Some entry) scores row =
    if nat_le entry.columns.documents row.doc then None
    else Some (stored_hit (root_at entry.columns row.doc) (score_or_zero (get_or scores row.doc None)) row.keys)

-- None where there is no such document
unfoldable pub hit_at : List EntryState → List (List (Option ℕ)) → KeyRow → Option Hit
hit_at view found row = hit_in (slice_get view row.place) (get_or found row.place []) row

-- ---- what is shown of it

-- a hit without what is shown of it
abbrev pub bare_of : Hit → Hit
bare_of hit = record hit { source = None; inner = [] }

-- the object of a row's document
abbrev pub row_object : Mapping → List (List (Marked Tree)) → KeyRow → Object
row_object m trees row = object_at m trees row.place row.doc

-- the pages of the definitions that the search hit owns
abbrev pub row_pages : Mapping → List (List (Marked Tree)) → SearchBody → KeyRow → List PagePart
row_pages m trees body row = inner_pages m (live_trees trees) (definitions_of body.inner) (row_object m trees row)

abbrev pub shown_of : Mapping → List (List (Marked Tree)) → SearchBody → KeyRow → Hit → Hit
shown_of m trees body row hit = record hit { source = source_of body.source (row_object m trees row); inner = row_pages m trees body row }

unfoldable pub shown_at : Mapping → List EntryState → List (List (Option ℕ)) → List (List (Marked Tree)) → SearchBody → KeyRow → Option Hit
shown_at m view found trees body row = option_map (shown_of m trees body row) (hit_at view found row)

-- rows that were found at roots of these trees
abbrev pub AreRootRows : Mapping → List (List (Marked Tree)) → List KeyRow → Type 0
AreRootRows m trees rows = AllByRecursion (λ (row : KeyRow). IsHitAt m 0 trees row.place row.doc) rows

-- how many stored sources a row may cost
abbrev pub row_reads : Mapping → List (List (Marked Tree)) → SearchBody → KeyRow → ℕ
row_reads m trees body row = 1 + joined_in (pages_of (row_pages m trees body row))

-- what the hit of a row weighs in a reply
abbrev pub weight_or_zero : Option Hit → ℕ
weight_or_zero None = 0
weight_or_zero (Some hit) = whole_weight hit

-- ---- hits that have one score, by which alone they are ordered

-- where the documents of the entries with scores stand, the first entry at a place
abbrev pub place_of : ℕ → ℕ → RowPlace
place_of place doc = record { place = place; doc = doc; number = pos 0 }

abbrev pub places_of : ℕ → List (List (Option ℕ)) → List RowPlace
places_of place [] = []
places_of place (scores ∷ more) = map (place_of place) (marked_places 0 (map is_some scores)) ++ places_of (suc place) more

-- their rows, but for the numbers of their trees
abbrev pub plain_row : ℕ → RowPlace → KeyRow
plain_row score at = record { keys = Number (pos score) ∷ []; place = at.place; doc = at.doc; number = at.number }

abbrev pub AreShared : ℕ → List (List (Option ℕ)) → Type 0
AreShared score found = AllByRecursion (λ (scores : List (Option ℕ)). scores ≡ filled (Some score) (map is_some scores)) found

-- the score alone orders them
abbrev pub IsByScore : List Sort → Type 0
IsByScore sorts = (sort : Sort) × (sorts ≡ sort ∷ []) × (sort.key ≡ Score)

-- ---- refusals

abbrev pub refusal_of : PageRefusal → FoundRefusal
refusal_of refused.TooLarge = TooLarge
refusal_of refused.NoMemory = NoMemory
