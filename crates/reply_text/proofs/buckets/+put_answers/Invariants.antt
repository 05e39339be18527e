use Rattle.std.proofs.Common.{◌≡◌, None, ◌+◌, ◌*◌, ◌≤◌, ◌++◌, length, drop, map, codes, false, is_some}
use Rattle.std.specs.Option.{option_copied}
use Rattle.query_ast.specs.Replies.{replies_of, replies_size, value_size, buckets_of, buckets_size}
use Rattle.query_ast.specs.Replies.View.{value_of, reply_part, bucket_part}
use Rattle.reply_text.specs.BucketParts.{answer_entry, head_entries, slot_size}
use Rattle.reply_text.specs.BucketTexts.{bucket_texts}
use Rattle.reply_text.specs.Next.{above, rise, ArePassed}
use Rattle.reply_text.specs.Object.{elements_text, entries_text, in_order}
use Rattle.reply_text.proofs.buckets.+put_answers.Given as goal

abbrev pub decreases-put_answers : goal.decreases-put_answers
decreases-put_answers l = 3 * replies_size (replies_of (map reply_part l.answers.now)) + 1

abbrev pub decreases-put_slot : goal.decreases-put_slot
decreases-put_slot l = slot_size l.slot

abbrev pub decreases-put_answer : goal.decreases-put_answer
decreases-put_answer l = 3 * value_size (value_of l.answer.now)

abbrev pub decreases-put_keyed : goal.decreases-put_keyed
decreases-put_keyed l = 3 * buckets_size (buckets_of l.buckets.now) + 2

abbrev pub decreases-put_buckets : goal.decreases-put_buckets
decreases-put_buckets l = 3 * buckets_size (buckets_of (map bucket_part l.buckets.now)) + 1

abbrev pub decreases-put_bucket : goal.decreases-put_bucket
decreases-put_bucket l = 3 * replies_size (replies_of l.bucket.now.inner) + 2

abbrev pub decreases-put_answers-slots : goal.decreases-put_answers-slots
decreases-put_answers-slots l = length (above (option_copied l.last) (in_order (head_entries l.head ++ map answer_entry l.answers)))

-- what is written and the things above the last name make the whole, and there is room for these and the bracket
abbrev pub invariant-put_answers-slots : goal.invariant-put_answers-slots
invariant-put_answers-slots l =
    (l.into.bytes ++ entries_text (is_some l.last) (above (option_copied l.last) (in_order (head_entries l.head ++ map answer_entry l.answers)))
    ≡ (l.fn.into.bytes ++ codes "{") ++ entries_text false (in_order (head_entries l.head ++ map answer_entry l.answers)))
    × (l.fn.into.spare + length (entries_text (is_some l.last) (above (option_copied l.last) (in_order (head_entries l.head ++ map answer_entry l.answers))))
    ≤ 1 + (l.into.spare + length (entries_text false (in_order (head_entries l.head ++ map answer_entry l.answers)))))
    × (l.rising ≡ rise None (map answer_entry l.answers))
    × ArePassed (option_copied l.last) (map answer_entry l.answers) l.at

-- what is written and what is left make the whole, and there is room for what is left
abbrev pub invariant-put_buckets-buckets : goal.invariant-put_buckets-buckets
invariant-put_buckets-buckets l =
    (l.into.bytes ++ elements_text l.later (bucket_texts (buckets_of (map bucket_part (drop l.bucket-index l.buckets))))
    ≡ l.fn.into.bytes ++ elements_text false (bucket_texts (buckets_of (map bucket_part l.buckets))))
    × (l.fn.into.spare + length (elements_text l.later (bucket_texts (buckets_of (map bucket_part (drop l.bucket-index l.buckets)))))
    ≤ l.into.spare + length (elements_text false (bucket_texts (buckets_of (map bucket_part l.buckets)))))
