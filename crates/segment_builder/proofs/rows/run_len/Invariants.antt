use Rattle.std.proofs.Common.{◌≡◌, ◌+◌, drop}
use Rattle.std.specs.Cmp.Lexicographic.{slice_cmp}
use Rattle.std.specs.Ordering.{nat_cmp}
use Rattle.segment_builder.specs.Groups.{run_length}
use Rattle.segment_builder.specs.Terms.{entries_seen}
use Rattle.segment_builder.proofs.rows.run_len.Given as goal

abbrev pub invariant-entries : goal.invariant-entries
invariant-entries g l =
    l.at + run_length (slice_cmp nat_cmp) l.bytes (entries_seen g.T.Term.bytes g.T.Term.positions (drop l.at l.entries)) ≡ run_length (slice_cmp nat_cmp) l.bytes (entries_seen g.T.Term.bytes g.T.Term.positions l.entries)
