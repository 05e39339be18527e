use Rattle.std.proofs.Common.{take}
use Rattle.std.specs.List.{All}
use Rattle.segment_builder.specs.Terms.{IsKey}
use Rattle.segment_builder.proofs.fit.keys_are_of_numbers.Given as goal

abbrev pub invariant-entries : goal.invariant-entries
invariant-entries l = All (λ entry. IsKey entry.0) (take l.entry-index l.entries)
