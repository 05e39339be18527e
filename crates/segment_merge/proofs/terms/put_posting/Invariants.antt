use Rattle.std.proofs.Common.{◌≡◌, ◌++◌, length, take}
use Rattle.std.specs.List.{flat_map}
use Rattle.part_text.specs.Text.{u32_text}
use Rattle.postings.specs.Postings.{present_positions}
use Rattle.segment_merge.proofs.terms.put_posting.Given as goal

abbrev pub invariant-positions : goal.invariant-positions
invariant-positions l = l.into.items ≡ ((l.fn.into.items ++ u32_text l.number) ++ u32_text (length (present_positions l.cursor))) ++ flat_map u32_text (take l.i (present_positions l.cursor))
