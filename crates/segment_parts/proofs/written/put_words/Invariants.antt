use Rattle.std.proofs.Common.{◌≡◌, ◌++◌, take}
use Rattle.std.specs.List.{flat_map}
use Rattle.part_text.specs.Text.{u64_text}
use Rattle.segment_parts.proofs.written.put_words.Given as goal

abbrev pub invariant-words : goal.invariant-words
invariant-words l = l.into.items ≡ l.fn.into.items ++ flat_map u64_text (take l.word-index l.words)
