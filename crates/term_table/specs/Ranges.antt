-- Which terms a range takes in, and where it begins.
use Rattle.std.specs.Prelude.{◌≡◌, ◌<◌, ◌≤◌, ◌↔◌, IsTrue, Some, slice_get, ℕ, Bool, true, List, length, take, ◌==◌, ◌&&◌, ◌||◌, not, nat_lt, nat_eq}
use Rattle.std.specs.List.{starts_with}
use Rattle.std.specs.Ordering.{nat_cmp, is_lt, is_le}
use Rattle.std.specs.Cmp.Lexicographic.{slice_cmp}
use Rattle.term_table.specs.declared.edge.Edge.{Edge}
use Rattle.term_table.specs.declared.edge.Edge.TheVariants.{Unbounded, Closed, Past}
use Rattle.term_table.specs.declared.cut.Cut.{Cut}
use Rattle.term_table.specs.declared.cut.Cut.TheVariants.{Low, High, Prefix}

-- bytes that lie from the low edge on: a closed edge is taken in, an open one isn't
abbrev pub is_from : Edge → List ℕ → Bool
is_from Unbounded bytes = true
is_from (Closed edge) bytes = is_le (slice_cmp nat_cmp edge.now bytes)
is_from (Past edge) bytes = is_lt (slice_cmp nat_cmp edge.now bytes)

-- bytes that lie up to the high edge
abbrev pub is_to : Edge → List ℕ → Bool
is_to Unbounded bytes = true
is_to (Closed edge) bytes = is_le (slice_cmp nat_cmp bytes edge.now)
is_to (Past edge) bytes = is_lt (slice_cmp nat_cmp bytes edge.now)

-- a term of the field whose bytes lie between the edges
abbrev pub is_between : ℕ → Edge → Edge → ℕ × List ℕ → Bool
is_between field low high term = (term.0 == field) && (is_from low term.1 && is_to high term.1)

-- a term of the field
abbrev pub is_of_field : ℕ → ℕ × List ℕ → Bool
is_of_field field term = term.0 == field

-- a term of the field that begins with the bytes
abbrev pub has_prefix : ℕ → List ℕ → ℕ × List ℕ → Bool
has_prefix field bytes term = (term.0 == field) && starts_with nat_eq term.1 bytes

-- bytes that lie before a cut: those before a low edge, those up to a high edge, and those up to the last with the prefix
abbrev pub is_before : Cut → List ℕ → Bool
is_before (Low edge) bytes = not (is_from edge bytes)
is_before (High edge) bytes = is_to edge bytes
is_before (Prefix prefix) bytes = is_le (slice_cmp nat_cmp (take (length prefix.now) bytes) prefix.now)

-- a term of a smaller field, or of the field and before the cut
abbrev pub comes_before : ℕ → Cut → ℕ × List ℕ → Bool
comes_before field cut term = nat_lt term.0 field || ((term.0 == field) && is_before cut term.1)

-- a term before all that lie from the low edge of the field on
abbrev pub lies_below : ℕ → Edge → ℕ × List ℕ → Bool
lies_below field low term = nat_lt term.0 field || ((term.0 == field) && not (is_from low term.1))

-- the ordinals before `end` are exactly those of the terms that pass
abbrev pub IsFront : (ℕ × List ℕ → Bool) → List (ℕ × List ℕ) → ℕ → Type 0
IsFront passes terms end =
    (ordinal : ℕ) (term : ℕ × List ℕ) → slice_get terms ordinal ≡ Some term → (ordinal < end) ↔ IsTrue (passes term)

-- the ordinals from `first` up to `end` are exactly those of the terms that pass
abbrev pub IsRange : (ℕ × List ℕ → Bool) → List (ℕ × List ℕ) → ℕ → ℕ → Type 0
IsRange passes terms first end =
    (ordinal : ℕ) (term : ℕ × List ℕ) → slice_get terms ordinal ≡ Some term →
    ((first ≤ ordinal) × (ordinal < end)) ↔ IsTrue (passes term)
