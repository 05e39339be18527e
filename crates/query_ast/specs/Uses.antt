-- What may be asked of a field of a kind (Elasticsearch reference, field data types).
use Rattle.std.specs.Prelude.{ℕ, ◌≡◌, ⊤, Bool, true, false}
use Rattle.tree_objects.specs.declared.field_value.FieldValue.{FieldValue}
use Rattle.tree_objects.specs.declared.field_value.FieldValue.TheVariants.{Number, Written}
use Rattle.mapping_body.specs.declared.kind.Kind.{Kind}
use Rattle.mapping_body.specs.declared.kind.Kind.TheVariants.{Text, Keyword, Long, Boolean, Date, Object, Nested, Join}
use Rattle.mapping.specs.Mapping.{Mapping, kind_at}
use Rattle.query_ast.specs.declared.query.RangeEnd.{RangeEnd}
use Rattle.query_ast.specs.declared.query.RangeEnd.TheVariants.{Free, Closed, Past}

-- a value, a range, a beginning, a sort or a bucket for each value, and a sum
pub record Uses : Type 0 where
  pub valued : Bool
  pub ranged : Bool
  pub begun : Bool
  pub sorted : Bool
  pub summed : Bool

abbrev pub uses_of : Kind → Uses
uses_of Text = record { valued = true; ranged = false; begun = true; sorted = false; summed = false }
uses_of Keyword = record { valued = true; ranged = true; begun = true; sorted = true; summed = false }
uses_of Long = record { valued = true; ranged = true; begun = false; sorted = true; summed = true }
uses_of Boolean = record { valued = true; ranged = false; begun = false; sorted = true; summed = false }
uses_of Date = record { valued = true; ranged = true; begun = false; sorted = true; summed = true }
uses_of Object = record { valued = false; ranged = false; begun = false; sorted = false; summed = false }
uses_of Nested = record { valued = false; ranged = false; begun = false; sorted = false; summed = false }
uses_of Join = record { valued = false; ranged = false; begun = false; sorted = false; summed = false }

abbrev pub uses_at : Mapping → ℕ → Uses
uses_at m f = uses_of (kind_at m f)

-- values of these kinds are texts, and those of the others numbers
abbrev pub is_written : Kind → Bool
is_written Text = true
is_written Keyword = true
is_written Long = false
is_written Boolean = false
is_written Date = false
is_written Object = false
is_written Nested = false
is_written Join = false

abbrev pub IsValueOf : Kind → FieldValue → Type 0
IsValueOf kind (Number z) = is_written kind ≡ false
IsValueOf kind (Written s) = is_written kind ≡ true

abbrev pub IsEndOf : Kind → RangeEnd → Type 0
IsEndOf kind Free = ⊤
IsEndOf kind (Closed v) = IsValueOf kind v
IsEndOf kind (Past v) = IsValueOf kind v
