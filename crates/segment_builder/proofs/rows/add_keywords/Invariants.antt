use Rattle.std.proofs.Common.{◌≡◌, ℕ, List, ◌++◌, drop}
use Rattle.segment_builder.specs.Groups.{keys}
use Rattle.segment_builder.specs.Terms.{at_field, fields_in, keyword_fields, AreAllRising}
use Rattle.segment_builder.proofs.rows.add_keywords.Given as goal

abbrev pub invariant-fields : goal.invariant-fields
invariant-fields l =
    ((field : ℕ) (bytes : List ℕ) → at_field field bytes (fields_in l.into.items) ++ at_field field bytes (keyword_fields (drop l.field-index l.keywords)) ≡ at_field field bytes (fields_in l.fn.into.items) ++ at_field field bytes (keyword_fields l.keywords))
    × (keys (fields_in l.into.items) ++ keys (keyword_fields (drop l.field-index l.keywords)) ≡ keys (fields_in l.fn.into.items) ++ keys (keyword_fields l.keywords))
    × (AreAllRising (fields_in l.fn.into.items) → AreAllRising (fields_in l.into.items))
