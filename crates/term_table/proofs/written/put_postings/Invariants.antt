use Rattle.std.proofs.Common.{◌≡◌, ◌++◌, length, take}
use Rattle.std.specs.List.{flat_map}
use Rattle.part_text.specs.Text.{u32_text}
use Rattle.term_table.specs.Part.{posting_text}
use Rattle.term_table.proofs.written.put_postings.Given as goal

abbrev pub invariant-postings : goal.invariant-postings
invariant-postings l = l.into.items ≡ (l.fn.into.items ++ u32_text (length l.postings)) ++ flat_map posting_text (take l.posting-index l.postings)
