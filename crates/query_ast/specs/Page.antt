-- Rows in order, and a page of them (Elasticsearch reference, sort search results and paginate search results). Rows are
-- of any type: what a row is ordered by are its keys, one for each clause, and its tree's sequence number.
use Rattle.std.specs.Prelude.{ℕ, ℤ, pos, Bool, true, false, List, [], ◌∷◌, take, drop, filter, Option, Some, None, if◌then◌else◌}
use Rattle.std.specs.Ordering.{nat_cmp, int_cmp, is_lt, on, ordering_then, then_cmp}
use Rattle.std.specs.declared.cmp.Ordering.{Ordering}
use Rattle.std.specs.declared.cmp.Ordering.TheVariants.{Equal}
use Rattle.tree_objects.specs.declared.field_value.FieldValue.{FieldValue}
use Rattle.tree_objects.specs.declared.field_value.FieldValue.TheVariants.{Number, Written}
use Rattle.query_ast.specs.Compare.{value_cmp, in_order}
use Rattle.query_ast.specs.declared.sort.Direction.{Direction}
use Rattle.query_ast.specs.declared.sort.Key.{Key}
use Rattle.query_ast.specs.declared.sort.Key.TheVariants.{Null, Number as NumberKey, Written as WrittenKey}
use Rattle.query_ast.specs.declared.sort.KeyRow.{KeyRow}
use Rattle.query_ast.specs.declared.sort.Missing.{Missing}
use Rattle.query_ast.specs.declared.sort.Missing.TheVariants.{Last, First, Given}
use Rattle.query_ast.specs.declared.sort.Sort.{Sort}

-- ---- two keys of one clause

-- null stands first or last as the clause says, whatever its direction
abbrev pub rank : Bool → Key → ℕ
rank null_first Null = if null_first then 0 else 2
rank null_first (NumberKey z) = 1
rank null_first (WrittenKey s) = 1

-- what a key shows; two nulls show the same
abbrev pub shown : Key → FieldValue
shown Null = Number (pos 0)
shown (NumberKey z) = Number z
shown (WrittenKey s) = Written s

-- the greatest first, or the least
abbrev pub directed : Bool → Key → Key → Ordering
directed true a b = value_cmp (shown b) (shown a)
directed false a b = value_cmp (shown a) (shown b)

abbrev pub key_cmp : Direction → Key → Key → Ordering
key_cmp d = then_cmp (on (rank d.null_first) nat_cmp) (directed d.descending)

-- ---- two rows: clause by clause, and then by number. A row has a key for each clause; one that hadn't would have nulls.

abbrev pub first_key : List Key → Key
first_key [] = Null
first_key (k ∷ ks) = k

abbrev pub later_keys : List Key → List Key
later_keys [] = []
later_keys (k ∷ ks) = ks

abbrev pub keys_cmp : List Direction → List Key → List Key → Ordering
keys_cmp [] a b = Equal
keys_cmp (d ∷ ds) a b = ordering_then (key_cmp d (first_key a) (first_key b)) (keys_cmp ds (later_keys a) (later_keys b))

-- the keys of a row with its number
abbrev pub place_cmp : List Direction → List Key × ℤ → List Key × ℤ → Ordering
place_cmp ds a b = ordering_then (keys_cmp ds a.0 b.0) (int_cmp a.1 b.1)

module _ {A : Type 0} (keys : A → List Key) (number : A → ℤ) where
  abbrev pub comes_before : List Direction → A → A → Bool
  comes_before ds a b = is_lt (place_cmp ds (keys a, number a) (keys b, number b))

  -- the row that `search_after` names to go on behind this one
  abbrev pub after_row : A → KeyRow
  after_row row = record { keys = keys row; place = 0; doc = 0; number = number row }

  -- strictly behind the row of `search_after`, where there is one
  abbrev pub comes_after : List Direction → Option KeyRow → A → Bool
  comes_after ds None row = true
  comes_after ds (Some after) row = is_lt (place_cmp ds (after.keys, after.number) (keys row, number row))

  -- The rows in order that come after that one, without the first `from` of them, and of the rest the first `size`. Rows
  -- of one tree with equal keys stand in the order in which they are given, which is the document's.
  unfoldable pub page_of : List Direction → Option KeyRow → ℕ → ℕ → List A → List A
  page_of ds after from size rows = take size (drop from (filter (comes_after ds after) (in_order (comes_before ds) rows)))

-- ---- the direction of a clause

abbrev pub is_null_first : Missing → Bool
is_null_first Last = false
is_null_first First = true
is_null_first (Given v) = false

abbrev pub direction_of : Sort → Direction
direction_of sort = record { descending = sort.descending; null_first = is_null_first sort.missing }
