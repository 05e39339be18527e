-- How a body is judged by what the walk of its properties keeps.
use Rattle.std.specs.Prelude.{◌≡◌, ℕ, ◌+◌, ◌<◌, nat_lt, Bool, false, not, ◌&&◌, ◌||◌, codes, if◌then◌else◌, List, [], ◌∷◌, length, Option, Some, None, is_some, IfSome, option_and_then, slice_get, slice_index_or}
use Rattle.std.specs.List.{All}
use Rattle.mapping_body.specs.Pairs.{lacks_names}
use Rattle.mapping_growth.specs.Bodies.{is_otherwise}
use Rattle.mapping_body.specs.Body.{kind_of, is_nested, is_join, member_named}
use Rattle.mapping_body.specs.declared.refusal.TheConstants.{MOST_NAMES}
use Rattle.mapping_growth.specs.Fields.{Draft}
use Rattle.mapping_growth.specs.Outline.{Outlined}
use Rattle.mapping_growth.specs.Relations.{Relation}

-- a table has the answers of a test for the numbers below a limit
pub record ArePassed (table : List Bool) (test : ℕ → Bool) (limit : ℕ) : Type 0 where
  pub long : length table ≡ limit
  pub each : (n : ℕ) → n < limit → slice_index_or table n false ≡ test n

-- the kept numbers are those of fields
abbrev pub AreKept : List Draft → List Outlined → Type 0
AreKept ds os = All (λ (o : Outlined). IfSome o.kept (λ n. n < length ds)) os

abbrev pub is_new : Outlined → Bool
is_new o = not (is_some o.kept)

-- the number of the kept field at the first property that says otherwise
abbrev pub otherwise_at : List Relation → List Draft → List Outlined → Option ℕ
otherwise_at rs ds [] = None
otherwise_at rs ds (o ∷ os) = if is_otherwise rs o.form (option_and_then (slice_get ds) o.kept) then o.kept else otherwise_at rs ds os

-- ---- what is asked of a property without its path

abbrev pub lies_deep : Outlined → Bool
lies_deep o = nat_lt MOST_NAMES (1 + o.dots)

abbrev pub holds_objects : Outlined → Bool
holds_objects o = is_nested (kind_of o.form)

abbrev pub is_join_outline : Outlined → Bool
is_join_outline o = is_join (kind_of o.form)

abbrev pub is_bad_outline : Outlined → Bool
is_bad_outline o = is_join_outline o && (nat_lt 1 (1 + o.dots) || lacks_names (member_named o.form (codes "relations")))
