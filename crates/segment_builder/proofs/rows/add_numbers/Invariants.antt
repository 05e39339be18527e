use Rattle.std.proofs.Common.{◌≡◌, ℕ, List, ◌++◌, drop}
use Rattle.segment_builder.specs.Groups.{keys}
use Rattle.segment_builder.specs.Terms.{at_field, fields_in, number_fields, AreAllRising}
use Rattle.segment_builder.proofs.rows.add_numbers.Given as goal

abbrev pub invariant-fields : goal.invariant-fields
invariant-fields l =
    ((field : ℕ) (bytes : List ℕ) → at_field field bytes (fields_in l.into.items) ++ at_field field bytes (number_fields (drop l.field-index l.numbers)) ≡ at_field field bytes (fields_in l.fn.into.items) ++ at_field field bytes (number_fields l.numbers))
    × (keys (fields_in l.into.items) ++ keys (number_fields (drop l.field-index l.numbers)) ≡ keys (fields_in l.fn.into.items) ++ keys (number_fields l.numbers))
    × (AreAllRising (fields_in l.fn.into.items) → AreAllRising (fields_in l.into.items))
