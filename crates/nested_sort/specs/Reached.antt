-- Serves proofs: the hits that a page can show, by their first keys.
use Rattle.std.specs.Prelude.{◌≡◌, ℕ, ℤ, ◌+◌, ◌≤◌, List, [], ◌∷◌, cond, filter, length, map, slice_get, IsSomeAnd, Option, false, ⊤}
use Rattle.std.specs.List.{AllByRecursion}
use Rattle.hit_order.specs.Reach.{AreMet, Met, first_of_row, is_within}
use Rattle.hit_order.specs.Table.{keys_of_row, number_of_row, number_or_null}
use Rattle.mapping.specs.Mapping.{Mapping}
use Rattle.query_ast.specs.Page.{direction_of, page_of}
use Rattle.query_ast.specs.declared.sort.Direction.{Direction}
use Rattle.query_ast.specs.declared.sort.Key.{Key}
use Rattle.query_ast.specs.declared.sort.Key.TheVariants.{Null as NoKey}
use Rattle.query_ast.specs.declared.sort.KeyRow.{KeyRow}
use Rattle.query_ast.specs.declared.sort.Sort.{Sort}
use Rattle.segment.specs.Live.{EntryState}
use Rattle.segment_parts.specs.Fields.{column_of}
use Rattle.segment_parts.specs.declared.columns.Columns.{Columns}
use Rattle.view_objects.specs.declared.hit.Hit.{Hit}
use Rattle.nested_sort.specs.Documents.{AllLong, IsGivenAs, clause_key, key_in, key_of_hit, question_of, score_key}
use Rattle.nested_sort.specs.Inside.{AreAt}
use Rattle.nested_sort.specs.Listed.{IsCapped}
use Rattle.nested_sort.specs.declared.reached.Candidate.{Candidate}
use Rattle.nested_sort.specs.declared.reached.NumberClause.{NumberClause}
use Rattle.nested_sort.specs.declared.reached.NumberClause.TheVariants.{Score, Field}

-- the key of a hit for the first clause
abbrev pub first_key_of : Mapping → List EntryState → ℕ → List (List (List (Option ℕ))) → List Sort → Hit → Key
first_key_of m view n filters [] hit = NoKey
first_key_of m view n filters (sort ∷ sorts) hit = clause_key m view n filters sort.missing sort.key hit

-- the key that a clause asks for
abbrev pub key_by : List EntryState → NumberClause → Hit → Key
key_by view Score = score_key
key_by view (Field asked) = key_of_hit false view (question_of asked)

abbrev pub IsAsked : List EntryState → NumberClause → Type 0
IsAsked view Score = ⊤
IsAsked view (Field asked) = AllLong view asked.filters.now × IsGivenAs false asked.missing.now

-- the same in one entry
abbrev pub key_at : Columns → ℕ → NumberClause → Hit → Key
key_at columns place Score hit = score_key hit
key_at columns place (Field asked) hit = key_in false columns place (question_of asked) hit.doc

abbrev pub IsAskedAt : Columns → ℕ → NumberClause → Type 0
IsAskedAt columns place Score = ⊤
IsAskedAt columns place (Field asked) = AreAt place columns.documents asked.filters.now × IsGivenAs false asked.missing.now

abbrev pub IsColumnOf : Columns → NumberClause → Option (List (ℕ × List ℤ)) → Type 0
IsColumnOf columns Score column = ⊤
IsColumnOf columns (Field asked) column = column ≡ column_of asked.field columns.numbers

-- the scores of the documents of the entry at a place
abbrev pub IsLongAt : List EntryState → ℕ → List (Option ℕ) → Type 0
IsLongAt view place scores = IsSomeAnd (slice_get view place) (λ (entry : EntryState). length scores ≡ entry.columns.documents)

abbrev pub hits_of_kept : List Candidate → List Hit
hits_of_kept kept = map (λ (one : Candidate). one.hit) kept

-- the hit of one that is within reach
abbrev pub hit_within : Met → Candidate → List Hit
hit_within met one = cond (is_within met.direction met.after met.bound (number_or_null one.key)) (one.hit ∷ []) []

-- of all hits that were met, those that are kept are all that are within reach, and perhaps others
pub record AreKept (key : Hit → Key) (direction : Direction) (after : Option Key) (most : ℕ) (all : List Hit) (kept : List Candidate) (met : Met) : Type 0 where
  pub directed : met.direction ≡ direction
  pub behind : met.after ≡ after
  pub upto : met.most ≡ most
  pub capped : AllByRecursion (λ (one : Candidate). IsCapped one.hit) kept
  pub keyed : AllByRecursion (λ (one : Candidate). number_or_null one.key ≡ key one.hit) kept
  pub same : filter (λ hit. is_within direction after met.bound (key hit)) (hits_of_kept kept) ≡ filter (λ hit. is_within direction after met.bound (key hit)) all
  pub known : AreMet (map key all) met

-- a page of rows of these hits is that of rows of all, where the first keys of rows are those of the hits
abbrev pub HavePages : Mapping → List EntryState → ℕ → List (List (List (Option ℕ))) → List Sort → Option KeyRow → ℕ → List Hit → List Hit → Type 0
HavePages m view n filters sorts after most all hits =
    (row : Hit → KeyRow) (from size : ℕ) → AllByRecursion (λ hit. first_of_row (row hit) ≡ first_key_of m view n filters sorts hit) all → from + size ≤ most
    → page_of keys_of_row number_of_row (map direction_of sorts) after from size (map row hits) ≡ page_of keys_of_row number_of_row (map direction_of sorts) after from size (map row all)
