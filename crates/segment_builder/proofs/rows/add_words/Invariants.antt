use Rattle.std.proofs.Common.{◌≡◌, ℕ, List, ◌++◌}
use Rattle.std.specs.Vec.Iter.{into_iter_items}
use Rattle.segment_builder.specs.Groups.{keys}
use Rattle.segment_builder.specs.Terms.{at_field, fields_in, word_fields, AreAllRising}
use Rattle.segment_builder.proofs.rows.add_words.Given as goal

abbrev pub invariant-fields : goal.invariant-fields
invariant-fields l =
    goal.iterator-fields.can_next l.field-iterator
    × goal.iterator-fields.is_finite l.field-iterator
    × ((field : ℕ) (bytes : List ℕ) → at_field field bytes (fields_in l.into.items) ++ at_field field bytes (word_fields (into_iter_items l.field-iterator)) ≡ at_field field bytes (fields_in l.fn.into.items) ++ at_field field bytes (word_fields l.fn.words.items))
    × (keys (fields_in l.into.items) ++ keys (word_fields (into_iter_items l.field-iterator)) ≡ keys (fields_in l.fn.into.items) ++ keys (word_fields l.fn.words.items))
    × (AreAllRising (fields_in l.fn.into.items) → AreAllRising (fields_in l.into.items))
