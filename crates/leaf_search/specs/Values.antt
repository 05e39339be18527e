-- Whether a flat document shows a value of a field, by the field's kind.
use Rattle.std.specs.Prelude.{ℕ, ◌==◌, Bool, true, false, ◌&&◌, nat_lt, if◌then◌else◌, List, length, Option, Some, None}
use Rattle.std.specs.List.{list_any, range_with_len}
use Rattle.mapping_body.specs.declared.kind.Kind.{Kind}
use Rattle.mapping_body.specs.declared.kind.Kind.TheVariants.{Text, Keyword, Long, Boolean, Date, Object as Plain, Nested, Join}
use Rattle.mapping_body.specs.Names.{lies_above}
use Rattle.mapping.specs.Mapping.{Mapping, field_at, home_of, kind_at}
use Rattle.segment.specs.Flat.{FlatDocument}
use Rattle.segment.specs.Shows.{has_term, has_text}

abbrev pub always : List ℕ → Bool
always bytes = true

-- a text field is shown by a mark of its own, since a text may have no word
abbrev pub shows_value : ℕ → Kind → FlatDocument → Bool
shows_value field Text d = has_text field d
shows_value field Keyword d = has_term field always d
shows_value field Long d = has_term field always d
shows_value field Boolean d = has_term field always d
shows_value field Date d = has_term field always d
shows_value field Plain d = false
shows_value field Nested d = false
shows_value field Join d = false

-- a field lies inside a plain object and has its home
abbrev pub is_inside : Mapping → ℕ → ℕ → Bool
is_inside m f g = lies_above (field_at m f).path (field_at m g).path && home_of m g == home_of m f

abbrev pub shows_inner : Mapping → ℕ → FlatDocument → ℕ → Bool
shows_inner m f d g = is_inside m f g && shows_value g (kind_at m g) d

-- a field inside a plain object is shown
abbrev pub shows_part : Mapping → ℕ → FlatDocument → Bool
shows_part m f d = list_any (shows_inner m f d) (range_with_len 0 (length m.fields))

-- a field that the mapping has
abbrev pub known_field : Mapping → Option ℕ → Option ℕ
known_field m None = None
known_field m (Some f) = if nat_lt f (length m.fields) then Some f else None
