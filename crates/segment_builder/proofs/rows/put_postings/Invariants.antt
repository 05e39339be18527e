use Rattle.std.proofs.Common.{◌≡◌, ◌++◌, drop}
use Rattle.std.specs.List.{flat_map}
use Rattle.term_table.specs.Part.{posting_text}
use Rattle.segment_builder.specs.Groups.{members}
use Rattle.segment_builder.specs.Terms.{entries_seen}
use Rattle.segment_builder.proofs.rows.put_postings.Given as goal

abbrev pub invariant-entries : goal.invariant-entries
invariant-entries g l =
    l.into.items ++ flat_map posting_text (members (entries_seen g.T.Term.bytes g.T.Term.positions (drop l.term-index l.entries))) ≡ l.fn.into.items ++ flat_map posting_text (members (entries_seen g.T.Term.bytes g.T.Term.positions l.entries))
