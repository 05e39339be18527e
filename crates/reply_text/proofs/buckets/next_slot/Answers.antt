use Rattle.std.proofs.Common.{ℕ, ◌++◌, IfSome, List, Option, Some, map, subst, sym}
use Rattle.std.specs.Option.{option_copied}
use Rattle.reply_text.specs.BucketParts.{answer_entry, head_entries, slot_entry}
use Rattle.reply_text.specs.Next.{ArePassed}
use Rattle.reply_text.specs.declared.buckets.Slot.{Slot}
use Rattle.reply_text.proofs.Next.{passed_on}
use Rattle.reply_text.proofs.buckets.next_slot.Goals as goal

pub returns-in-Some-clause-passed : goal.returns-in-Some-clause-passed
returns-in-Some-clause-passed c =
    let last = option_copied c.args.last in
    let es = map answer_entry c.args.answers.now in
    let slot = c.in-Some.slot in
    let start : ArePassed (Some (slot_entry slot).0) es c.args.at.now = passed_on last (head_entries c.args.head ++ es) es c.args.at.now (slot_entry slot) c.in-Some.ensures.next c.requires.passed in
    subst (λ (found : Option Slot). IfSome found (λ slot. ArePassed (Some (slot_entry slot).0) es c.passed.result)) (sym c.in-Some.is)
    (subst (λ (name : List ℕ). ArePassed (Some name) es c.passed.result) c.name_of.ensures
    (c.passed.ensures (subst (λ (name : List ℕ). ArePassed (Some name) es c.args.at.now) (sym c.name_of.ensures) start)))
