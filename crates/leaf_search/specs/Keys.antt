-- Values by the bytes with which they stand among the terms of a segment.
use Rattle.std.specs.Int.{w64}
use Rattle.std.specs.Prelude.{ℕ, ⊤, FitsSigned, Bool, true, ◌&&◌, nat_eq, List, []}
use Rattle.std.specs.List.{list_any, starts_with}
use Rattle.std.specs.Ordering.{nat_cmp, is_le, is_lt}
use Rattle.std.specs.Cmp.Lexicographic.{slice_cmp}
use Rattle.std.specs.Str.{bytes_eq}
use Rattle.query_ast.specs.declared.query.RangeEnd.{RangeEnd}
use Rattle.query_ast.specs.declared.query.RangeEnd.TheVariants.{Free, Closed, Past}
use Rattle.segment.specs.Flat.{FlatDocument}
use Rattle.segment.specs.Shows.{has_term}
use Rattle.term_table.specs.Keys.{number_key}
use Rattle.term_table.specs.Ranges.{is_from, is_to}
use Rattle.term_table.specs.declared.edge.Edge.{Edge}
use Rattle.tree_objects.specs.declared.field_value.FieldValue.{FieldValue}
use Rattle.tree_objects.specs.declared.field_value.FieldValue.TheVariants.{Number, Written}

-- a text and a keyword stand there as they are, a number by its key
abbrev pub key_of : FieldValue → List ℕ
key_of (Number z) = number_key z
key_of (Written s) = s

-- a number of 64 bits, signed
abbrev pub FitsKey : FieldValue → Type 0
FitsKey (Number z) = FitsSigned w64 z
FitsKey (Written s) = ⊤

abbrev pub EndFits : RangeEnd → Type 0
EndFits Free = ⊤
EndFits (Closed v) = FitsKey v
EndFits (Past v) = FitsKey v

-- the key of the value at an end of a range; a free end has none
abbrev pub end_key : RangeEnd → List ℕ
end_key Free = []
end_key (Closed v) = key_of v
end_key (Past v) = key_of v

-- bytes between two edges
abbrev pub is_within : Edge → Edge → List ℕ → Bool
is_within low high bytes = is_from low bytes && is_to high bytes

-- bytes from the low end of a range on
abbrev pub is_from_end : RangeEnd → List ℕ → Bool
is_from_end Free bytes = true
is_from_end (Closed low) bytes = is_le (slice_cmp nat_cmp (key_of low) bytes)
is_from_end (Past low) bytes = is_lt (slice_cmp nat_cmp (key_of low) bytes)

-- bytes up to its high end
abbrev pub is_to_end : RangeEnd → List ℕ → Bool
is_to_end Free bytes = true
is_to_end (Closed high) bytes = is_le (slice_cmp nat_cmp bytes (key_of high))
is_to_end (Past high) bytes = is_lt (slice_cmp nat_cmp bytes (key_of high))

-- bytes in the range
abbrev pub lies_within : RangeEnd → RangeEnd → List ℕ → Bool
lies_within low high bytes = is_from_end low bytes && is_to_end high bytes

-- bytes that begin with others
abbrev pub begins : List ℕ → List ℕ → Bool
begins start bytes = starts_with nat_eq bytes start

-- the term of a field with these bytes
abbrev pub is_term : ℕ → List ℕ → ℕ × List ℕ → Bool
is_term field bytes term = nat_eq term.0 field && bytes_eq bytes term.1

-- a document has this term of a field
abbrev pub has_bytes : ℕ → FlatDocument → List ℕ → Bool
has_bytes field d bytes = has_term field (bytes_eq bytes) d

-- it has the term that a value stands for
abbrev pub has_value_of : ℕ → FlatDocument → FieldValue → Bool
has_value_of field d value = has_bytes field d (key_of value)

-- .. of one of some values
abbrev pub has_one_of : ℕ → List FieldValue → FlatDocument → Bool
has_one_of field given d = list_any (has_value_of field d) given
