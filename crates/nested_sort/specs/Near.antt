-- Serves proofs: the hits whose numbers a page can show, as they are found by the terms of a field.
use Rattle.std.specs.Prelude.{◌≡◌, ℕ, ℤ, ◌<◌, ◌≤◌, Bool, true, false, ◌&&◌, cond, List, filter, get_or, length, map, slice_get, IsSomeAnd, Option, Some, is_some, option_map, ⊤}
use Rattle.std.specs.List.{AllByRecursion, count_by, flat_map}
use Rattle.block_bits.specs.Flags.{intersection, is_marked}
use Rattle.block_bits.specs.Places.{next_place}
use Rattle.block_join.specs.Scores.{filled}
use Rattle.hit_order.specs.Reach.{is_late, is_near, is_within as is_shown, key_before}
use Rattle.query_ast.specs.declared.sort.Direction.{Direction}
use Rattle.query_ast.specs.declared.sort.Key.{Key}
use Rattle.query_ast.specs.declared.sort.Key.TheVariants.{Number as NumberKey}
use Rattle.query_ast.specs.declared.sort.Missing.TheVariants.{Last}
use Rattle.query_ast.specs.declared.sort.SortMode.{SortMode}
use Rattle.query_ast.specs.declared.sort.SortMode.TheVariants.{Min, Max, Sum, Avg, Median}
use Rattle.segment.specs.Live.{EntryState}
use Rattle.segment_parts.specs.declared.columns.Columns.{Columns}
use Rattle.term_table.specs.Ranges.{is_from, is_to}
use Rattle.term_table.specs.declared.edge.Edge.{Edge}
use Rattle.view_objects.specs.declared.hit.Hit.{Hit}
use Rattle.nested_sort.specs.Documents.{Question, docs_inside, numbers_at, question_of}
use Rattle.nested_sort.specs.declared.near.Reach.{Reach}
use Rattle.nested_sort.specs.declared.reached.NumberClause.{NumberClause}
use Rattle.nested_sort.specs.declared.reached.NumberClause.TheVariants.{Score, Field}

-- a key that isn't before that of the row to go on behind, and before a limit
abbrev pub reaches : Direction → Option Key → ℤ → Key → Bool
reaches d after limit key = cond (is_late d after key) (key_before d key (NumberKey limit)) false

-- bytes between two edges
abbrev pub is_within : Edge → Edge → List ℕ → Bool
is_within low high bytes = is_from low bytes && is_to high bytes

-- between two edges, of which the near one comes first in ascending or in descending order
abbrev pub is_within_by : Bool → Edge → Edge → List ℕ → Bool
is_within_by true near far bytes = is_within far near bytes
is_within_by false near far bytes = is_within near far bytes

-- a mode that takes one of the values
abbrev pub IsPick : SortMode → Type 0
IsPick Min = ⊤
IsPick Max = ⊤
IsPick Sum = ⊥
IsPick Avg = ⊥
IsPick Median = ⊥

-- a clause whose key is one of the numbers that it asks for, and null where there is none
abbrev pub IsSuited : NumberClause → Type 0
IsSuited Score = ⊥
IsSuited (Field asked) = IsPick asked.mode × (asked.missing.now ≡ Last)

-- the numbers that a clause asks for
abbrev pub inside_numbers : Columns → ℕ → Question → ℕ → List ℤ
inside_numbers columns place q doc = flat_map (numbers_at columns q.field) (docs_inside columns place q doc)

-- no number is within reach
abbrev pub AreOut : Reach → List ℤ → Type 0
AreOut reach numbers = AllByRecursion (λ (number : ℤ). reaches reach.direction (option_map NumberKey reach.after) reach.limit (NumberKey number) ≡ false) numbers

-- documents that aren't in a set are of another one, the parents, and none of those inside before `at` has them as the next
pub record HaveNone (parents inner : List Bool) (at : ℕ) (set : List Bool) : Type 0 where
  pub long : length set ≡ length parents
  pub parent : (doc : ℕ) → doc < length parents → get_or set doc false ≡ false → get_or parents doc false ≡ true
  pub none : (doc inside : ℕ) → doc < length parents → get_or set doc false ≡ false → inside < at → get_or inner inside false ≡ true → next_place is_marked inside parents ≡ Some doc → ⊥

-- documents with one score: those that are left out have no number within reach
pub record IsCut (columns : Columns) (place : ℕ) (q : Question) (reach : Reach) (all some : List (Option ℕ)) : Type 0 where
  pub score : ℕ
  pub marks : List Bool
  pub long : length marks ≡ columns.documents
  pub every : all ≡ filled (Some score) (map is_some all)
  pub cut : some ≡ filled (Some score) (intersection marks (map is_some all))
  pub left : (doc : ℕ) → doc < columns.documents → get_or marks doc false ≡ false → AreOut reach (inside_numbers columns place q doc)

abbrev pub IsCutAt : List EntryState → ℕ → NumberClause → Reach → List (Option ℕ) → List (Option ℕ) → Type 0
IsCutAt view place Score reach all some = ⊥
IsCutAt view place (Field asked) reach all some = IsSomeAnd (slice_get view place) (λ (entry : EntryState). IsCut entry.columns place (question_of asked) reach all some)

-- some of all hits: for a bound before the limit those that are within reach are the same
pub record AreNear (key : Hit → Key) (d : Direction) (after : Option Key) (limit : ℤ) (all some : List Hit) : Type 0 where
  pub same : (bound : Key) → is_near d (Some bound) (NumberKey limit) ≡ false → filter (λ hit. is_shown d after (Some bound) (key hit)) some ≡ filter (λ hit. is_shown d after (Some bound) (key hit)) all
  pub fewer : (test : Key → Bool) → count_by test (map key some) ≤ count_by test (map key all)
