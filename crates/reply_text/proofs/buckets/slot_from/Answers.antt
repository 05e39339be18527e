use Rattle.std.proofs.Common.{◌≡◌, ◌&&◌, ◌++◌, None, true, ap, arith, map, sym, ◌∙◌, Option}
use Rattle.std.specs.Option.{option_copied, option_map}
use Rattle.reply_text.specs.BucketParts.{answer_entry, slot_entry, head_entries}
use Rattle.reply_text.specs.Next.{closest, is_above}
use Rattle.reply_text.specs.Object.{Entry}
use Rattle.reply_text.proofs.BucketLines.{closest-append, heads_within}
use Rattle.reply_text.proofs.Next.{both, drop_map, first_next, next_from, none_left, skip}
use Rattle.reply_text.proofs.buckets.slot_from.Goals as goal

pub answers-init : goal.answers-init
answers-init c =
    let last = option_copied c.args.last in
    let answers = c.args.answers.now in
    let found = option_map slot_entry c.next_of_head-found.result in (
      ap (closest last found) (drop_map answer_entry answers c.args.at) ∙ skip last found (map answer_entry answers) c.args.at c.requires.passed
          ∙ ap (λ (e : Option Entry). closest last e (map answer_entry answers)) c.next_of_head-found.ensures.closest
          ∙ sym (closest-append last None (head_entries c.args.head) (map answer_entry answers)),
      heads_within answers c.next_of_head-found.result c.next_of_head-found.ensures.no_answer,
    )

pub returns-then-is_first-clause-next : goal.returns-then-is_first-clause-next
returns-then-is_first-clause-next c =
    let last = option_copied c.args.last in
    let answers = c.args.answers.now in
    let answer = c.index-answers-index.result in
    let all = head_entries c.args.head ++ map answer_entry answers in
    let first : (c.args.rising && is_above last c.as_slice.result.now) ≡ true = sym c.is_first.ensures ∙ c.if-is_first.true in
    let yes = both c.args.rising (is_above last c.as_slice.result.now) first in
    next_from last all (option_map slot_entry c.closer-found.result)
    (c.closer-found.ensures.closer
    ∙ first_next answer_entry answers c.answers.index answer answer last (option_map slot_entry c.answers.found) (closest last None all)
    (sym c.requires.rising ∙ yes.0) (omega (arith, c.answers-test.true)) c.index-answers-index.is (ap (is_above last) (sym c.as_slice.ensures) ∙ yes.1) c.answers.invariant.0)

-- none is left to put it against
pub returns-clause-next : goal.returns-clause-next
returns-clause-next c =
    let last = option_copied c.args.last in
    let answers = c.args.answers.now in
    let all = head_entries c.args.head ++ map answer_entry answers in
    next_from last all (option_map slot_entry c.answers.found)
    (none_left answer_entry answers c.answers.index last (option_map slot_entry c.answers.found) (closest last None all) (omega (arith, c.answers-test.false)) c.answers.invariant.0)
