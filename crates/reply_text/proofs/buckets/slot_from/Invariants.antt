use Rattle.std.proofs.Common.{◌≡◌, ◌++◌, None, map, drop, IfSome}
use Rattle.std.specs.Option.{option_copied, option_map}
use Rattle.reply_text.specs.BucketParts.{answer_entry, slot_entry, head_entries, IsWithin}
use Rattle.reply_text.specs.Next.{closest}
use Rattle.reply_text.proofs.buckets.slot_from.Given as goal

-- what was found, put against the answers that are left, is what there is; if an answer was found, it is one of these
abbrev pub invariant-answers : goal.invariant-answers
invariant-answers l =
    (closest (option_copied l.last) (option_map slot_entry l.found) (map answer_entry (drop l.index l.answers))
    ≡ closest (option_copied l.last) None (head_entries l.head ++ map answer_entry l.answers))
    × IfSome l.found (IsWithin l.answers)
