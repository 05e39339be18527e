-- The terms of a table, by ordinal.
use Rattle.std.proofs.Common.{◌≡◌, ℕ, ◌+◌, ◌-◌, ◌<◌, List, length, ◌∙◌, ap, arith, Some, slice_get}
use Rattle.std.proofs.lemmas.List.{length-map, get_or-map}
use Rattle.std.proofs.lemmas.Option.{slice_get-get_or}
use Rattle.part_text.specs.Places.{row, rows_of}
use Rattle.part_text.specs.Placed.{length-rows_of, get_or-rows_of}
use Rattle.term_table.specs.Kept.{term_of, HasTerm, terms_of, IsTable}

pub length-terms_of : (bytes places : List ℕ) → length (terms_of bytes places) ≡ length places - 1
unfolding terms_of
length-terms_of bytes places = length-map (rows_of places bytes) term_of ∙ length-rows_of places bytes

pub slice_get-terms_of : (bytes places : List ℕ) (ordinal : ℕ) → ordinal + 1 < length places → slice_get (terms_of bytes places) ordinal ≡ Some (term_of (row places bytes ordinal))
unfolding terms_of
slice_get-terms_of bytes places ordinal below =
    let d : ℕ × List ℕ = term_of (row places bytes ordinal) in
    let rows : ordinal < length (rows_of places bytes) = omega (arith, below, length-rows_of places bytes) in
    let inside : ordinal < length (terms_of bytes places) = omega (arith, below, length-terms_of bytes places) in
    slice_get-get_or (terms_of bytes places) ordinal d inside
    ∙ ap Some (get_or-map term_of (rows_of places bytes) ordinal (row places bytes ordinal) d rows ∙ ap term_of (get_or-rows_of places bytes ordinal (row places bytes ordinal) below))

pub has_term-at : (bytes places : List ℕ) (ordinal : ℕ) → IsTable bytes places → ordinal + 1 < length places → HasTerm (row places bytes ordinal)
has_term-at bytes places ordinal table below =
    let rows : ordinal < length (rows_of places bytes) = omega (arith, below, length-rows_of places bytes) in
    let e = get_or-rows_of places bytes ordinal (row places bytes ordinal) below in
    rw e at (table.have_terms ordinal (row places bytes ordinal) rows)

pub ruleset tables = (length-terms_of, slice_get-terms_of)
