-- Documents of live objects, in any order, and the keys that they have.
use Rattle.std.specs.Prelude.{◌≡◌, ℕ, ◌<◌, ◌≤◌, List, [], map, length, get_or, slice_get, IsSomeAnd, Option, Some, None}
use Rattle.std.specs.List.{All}
use Rattle.flattener.specs.StandsFor.{Marked}
use Rattle.hit_order.specs.Table.{key_at}
use Rattle.hit_order.specs.declared.column.Column.{Column}
use Rattle.mapping.specs.Mapping.{Mapping}
use Rattle.query_ast.specs.SortKey.{sort_key}
use Rattle.query_ast.specs.declared.sort.Sort.{Sort}
use Rattle.score_math.specs.declared.score.TheConstants.{SCORE_CAP}
use Rattle.segment.specs.Live.{EntryState}
use Rattle.tree_joins.specs.Seen.{at_scope, seen}
use Rattle.tree_objects.specs.Object.{Object}
use Rattle.tree_objects.specs.Tree.{Tree}
use Rattle.view_objects.specs.Hits.{live_trees, object_at}
use Rattle.view_objects.specs.declared.hit.Hit.{Hit}

-- a document of the entry at a place
abbrev pub IsDocOf : List EntryState → ℕ → ℕ → Type 0
IsDocOf view place doc = IsSomeAnd (slice_get view place) (λ (entry : EntryState). doc < entry.columns.documents)

abbrev pub AreDocs : List EntryState → List Hit → Type 0
AreDocs view hits = All (λ (hit : Hit). IsDocOf view hit.place hit.doc) hits

-- a document of the scope in the entry at a place has a score: its object is live
pub record IsHitAt (m : Mapping) (n : ℕ) (trees : List (List (Marked Tree))) (place doc : ℕ) : Type 0 where
  pub given : Object → Option ℕ
  pub score : ℕ
  pub is : get_or (seen m (at_scope n given) (get_or trees place [])) doc None ≡ Some score

abbrev pub AreHits : Mapping → ℕ → List (List (Marked Tree)) → List Hit → Type 0
AreHits m n trees hits = All (λ (hit : Hit). IsHitAt m n trees hit.place hit.doc) hits

-- a score that a reply can hold
abbrev pub IsCapped : Hit → Type 0
IsCapped hit = hit.score ≤ SCORE_CAP

abbrev pub no_hit : Hit
no_hit = record { place = 0; doc = 0; score = 0 }

-- the keys of each hit are those of its object
pub record AreKeyed (m : Mapping) (trees : List (List (Marked Tree))) (sorts : List Sort) (hits : List Hit) (columns : List Column) : Type 0 where
  pub keys : (at : ℕ) → at < length hits → map (λ (column : Column). key_at column at) columns ≡ map (sort_key m (live_trees trees) (get_or hits at no_hit).score (object_at m trees (get_or hits at no_hit).place (get_or hits at no_hit).doc)) sorts
