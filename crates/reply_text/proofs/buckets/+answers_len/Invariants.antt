use Rattle.std.proofs.Common.{◌≡◌, None, ◌+◌, ◌*◌, ◌-◌, ◌<◌, ◌^◌, ◌++◌, min, length, drop, map, false, is_some}
use Rattle.std.specs.Option.{option_copied}
use Rattle.query_ast.specs.Replies.{replies_of, replies_size, value_size, buckets_of, buckets_size}
use Rattle.query_ast.specs.Replies.View.{value_of, reply_part, bucket_part}
use Rattle.reply_text.specs.BucketParts.{answer_entry, head_entries, slot_size}
use Rattle.reply_text.specs.BucketTexts.{bucket_texts}
use Rattle.reply_text.specs.Next.{above, rise, ArePassed}
use Rattle.reply_text.specs.Object.{elements_text, entries_text, in_order}
use Rattle.reply_text.proofs.buckets.+answers_len.Given as goal

abbrev pub decreases-answers_len : goal.decreases-answers_len
decreases-answers_len l = 3 * replies_size (replies_of (map reply_part l.answers.now)) + 1

abbrev pub decreases-slot_len : goal.decreases-slot_len
decreases-slot_len l = slot_size l.slot

abbrev pub decreases-answer_len : goal.decreases-answer_len
decreases-answer_len l = 3 * value_size (value_of l.answer.now)

abbrev pub decreases-buckets_len : goal.decreases-buckets_len
decreases-buckets_len l = 3 * buckets_size (buckets_of (map bucket_part l.buckets.now)) + 1

abbrev pub decreases-bucket_len : goal.decreases-bucket_len
decreases-bucket_len l = 3 * replies_size (replies_of l.bucket.now.inner) + 2

abbrev pub decreases-answers_len-slots : goal.decreases-answers_len-slots
decreases-answers_len-slots l = length (above (option_copied l.last) (in_order (head_entries l.head ++ map answer_entry l.answers)))

-- what is counted and what is left make the whole
abbrev pub invariant-answers_len-slots : goal.invariant-answers_len-slots
invariant-answers_len-slots l =
    (l.total < 2 ^ 64)
    × (min (l.total + length (entries_text (is_some l.last) (above (option_copied l.last) (in_order (head_entries l.head ++ map answer_entry l.answers))))) (2 ^ 64 - 1)
    ≡ min (length (entries_text false (in_order (head_entries l.head ++ map answer_entry l.answers)))) (2 ^ 64 - 1))
    × (l.rising ≡ rise None (map answer_entry l.answers))
    × ArePassed (option_copied l.last) (map answer_entry l.answers) l.at

abbrev pub invariant-buckets_len-buckets : goal.invariant-buckets_len-buckets
invariant-buckets_len-buckets l =
    (l.total < 2 ^ 64)
    × (min (l.total + length (elements_text l.later (bucket_texts (buckets_of (map bucket_part (drop l.bucket-index l.buckets)))))) (2 ^ 64 - 1)
    ≡ min (length (elements_text false (bucket_texts (buckets_of (map bucket_part l.buckets))))) (2 ^ 64 - 1))
