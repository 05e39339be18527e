use Rattle.std.proofs.Common.{◌≡◌, ◌++◌, drop, map}
use Rattle.term_table.specs.Keys.{number_key}
use Rattle.segment_builder.specs.Terms.{entries_at, key_entry, once_after}
use Rattle.segment_builder.proofs.terms.put_later_keys.Given as goal

abbrev pub invariant-rest : goal.invariant-rest
invariant-rest l =
    map key_entry l.into.items ++ entries_at l.doc (once_after l.last (map number_key (drop l.value-index l.rest))) ≡ map key_entry l.fn.into.items ++ entries_at l.doc (once_after l.fn.first (map number_key l.rest))
