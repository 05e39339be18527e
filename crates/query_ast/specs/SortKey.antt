-- What a sort clause compares rows by (Elasticsearch reference, sort search results: mode, nested sort, missing values).
use Rattle.std.specs.Prelude.{ℕ, ◌-◌, ◌/◌, ℤ, pos, ◌+ℤ◌, Bool, true, List, [], ◌∷◌, length, filter, fold, get_or, Option, Some, None}
use Rattle.std.specs.Int.{saturate_signed, w64}
use Rattle.std.specs.List.{flat_map, best_of}
use Rattle.score_math.specs.Integers.{floor_div}
use Rattle.tree_objects.specs.declared.field_value.FieldValue.{FieldValue}
use Rattle.tree_objects.specs.declared.field_value.FieldValue.TheVariants.{Number, Written}
use Rattle.mapping.specs.Mapping.{Mapping}
use Rattle.tree_objects.specs.Object.{Object, below}
use Rattle.tree_objects.specs.Tree.{Tree}
use Rattle.tree_objects.specs.Values.{values}
use Rattle.query_ast.specs.Clause.{Clause}
use Rattle.query_ast.specs.Compare.{is_less, in_order}
use Rattle.query_ast.specs.Hit.{is_hit}
use Rattle.query_ast.specs.declared.sort.Chain.{Chain}
use Rattle.query_ast.specs.declared.sort.Key.{Key}
use Rattle.query_ast.specs.declared.sort.Key.TheVariants.{Null, Number as NumberKey, Written as WrittenKey}
use Rattle.query_ast.specs.declared.sort.Missing.{Missing}
use Rattle.query_ast.specs.declared.sort.Missing.TheVariants.{Last, First, Given}
use Rattle.query_ast.specs.declared.sort.Sort.{Sort}
use Rattle.query_ast.specs.declared.sort.SortKey.{SortKey}
use Rattle.query_ast.specs.declared.sort.SortKey.TheVariants.{Score, Field}
use Rattle.query_ast.specs.declared.sort.SortMode.{SortMode}
use Rattle.query_ast.specs.declared.sort.SortMode.TheVariants.{Min, Max, Sum, Avg, Median}

-- ---- the objects whose values count

abbrev pub passes : Mapping → List Tree → Option Clause → Object → Bool
passes m live None o = true
passes m live (Some c) o = is_hit m live c o

-- each step leads from an object to those of its scope inside it that hit its filter, in document order
abbrev pub chain_objects : Mapping → List Tree → List Chain → Object → List Object
chain_objects m live [] o = o ∷ []
chain_objects m live (step ∷ chain) o =
    flat_map (chain_objects m live chain) (filter (passes m live step.filter) (below m o step.scope))

-- ---- several values made one

-- a text counts as 0: sums are of numbers alone
abbrev pub number_in : FieldValue → ℤ
number_in (Number z) = z
number_in (Written s) = pos 0

abbrev pub total : List FieldValue → ℤ
total vs = fold (λ sum v. sum +ℤ number_in v) (pos 0) vs

abbrev pub is_greater : FieldValue → FieldValue → Bool
is_greater a b = is_less b a

abbrev pub least_value : List FieldValue → Option FieldValue
least_value [] = None
least_value (v ∷ vs) = Some (best_of is_less v vs)

abbrev pub greatest_value : List FieldValue → Option FieldValue
greatest_value [] = None
greatest_value (v ∷ vs) = Some (best_of is_greater v vs)

abbrev pub number_at : ℕ → List FieldValue → ℤ
number_at at vs = number_in (get_or vs at (Number (pos 0)))

-- the mean of the two in the middle, which are one where the number of values is odd
abbrev pub median : List FieldValue → ℤ
median vs = floor_div (number_at ((length vs - 1) / 2) (in_order is_less vs) +ℤ number_at (length vs / 2) (in_order is_less vs)) 2

-- of no values there is none; a sum is clamped to 64 bits, and a mean is rounded towards minus infinity
abbrev pub mode_value : SortMode → List FieldValue → Option FieldValue
mode_value mode [] = None
mode_value Min (v ∷ vs) = least_value (v ∷ vs)
mode_value Max (v ∷ vs) = greatest_value (v ∷ vs)
mode_value Sum (v ∷ vs) = Some (Number (saturate_signed w64 (total (v ∷ vs))))
mode_value Avg (v ∷ vs) = Some (Number (floor_div (total (v ∷ vs)) (length (v ∷ vs))))
mode_value Median (v ∷ vs) = Some (Number (median (v ∷ vs)))

-- ---- the key

abbrev pub key_of_value : FieldValue → Key
key_of_value (Number z) = NumberKey z
key_of_value (Written s) = WrittenKey s

abbrev pub key_or_missing : Missing → Option FieldValue → Key
key_or_missing missing (Some v) = key_of_value v
key_or_missing Last None = Null
key_or_missing First None = Null
key_or_missing (Given v) None = key_of_value v

-- of an object that was hit with this score
abbrev pub key_by : Mapping → List Tree → Missing → ℕ → Object → SortKey → Key
key_by m live missing score o Score = NumberKey (pos score)
key_by m live missing score o (Field f mode chain) =
    key_or_missing missing (mode_value mode (flat_map (values m f) (chain_objects m live chain o)))

unfoldable pub sort_key : Mapping → List Tree → ℕ → Object → Sort → Key
sort_key m live score o sort = key_by m live sort.missing score o sort.key
