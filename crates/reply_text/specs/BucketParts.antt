-- The texts of answers piece by piece, as they are written. `BucketLines` in `proofs/` leads from them to objects.
use Rattle.std.specs.Prelude.{ℕ, ◌+◌, ◌*◌, List, [], ◌∷◌, ◌++◌, false, codes, decimal, Contains}
use Rattle.tree_json.specs.Text.{quoted}
use Rattle.query_ast.specs.Replies.{BucketPart, replies_of, buckets_of, value_size}
use Rattle.query_ast.specs.Replies.View.{value_of}
use Rattle.query_ast.specs.declared.bucket.AggReply.{AggReply}
use Rattle.query_ast.specs.declared.bucket.AggValue.{AggValue}
use Rattle.query_ast.specs.declared.bucket.AggValue.TheVariants.{Single, Buckets, Metric}
use Rattle.query_ast.specs.declared.bucket.Bucket.{Bucket}
use Rattle.reply_text.specs.Object.{Entry, entry, object_text, elements_text}
use Rattle.reply_text.specs.BucketTexts.{value_text, metric_text, answer_entries, answer_text, bucket_texts}
use Rattle.reply_text.specs.declared.buckets.Head.{Head}
use Rattle.reply_text.specs.declared.buckets.Head.TheVariants as head
use Rattle.reply_text.specs.declared.buckets.Slot.{Slot}
use Rattle.reply_text.specs.declared.buckets.Slot.TheVariants.{Count, Key, Answer}

-- an answer under its name
abbrev pub answer_entry : AggReply → Entry
answer_entry answer = entry answer.name (answer_text (value_of answer.value))

-- one thing of an object of answers
abbrev pub slot_entry : Slot → Entry
slot_entry (Count n) = entry (codes "doc_count") (decimal n)
slot_entry (Key key) = entry (codes "key") (value_text key.now)
slot_entry (Answer answer) = answer_entry answer.now

-- what stands in such an object besides answers
abbrev pub head_entries : Head → List Entry
head_entries head.Nothing = []
head_entries (head.Count n) = slot_entry (Count n) ∷ []
head_entries (head.Bucket n key) = slot_entry (Count n) ∷ slot_entry (Key key) ∷ []

-- an answer is one of these
abbrev pub IsWithin : List AggReply → Slot → Type 0
IsWithin answers (Count n) = Unit {0}
IsWithin answers (Key key) = Unit {0}
IsWithin answers (Answer answer) = Contains answers answer.now

-- how much stands below: a measure for the recursions
abbrev pub slot_size : Slot → ℕ
slot_size (Count n) = 0
slot_size (Key key) = 0
slot_size (Answer answer) = 3 * value_size (value_of answer.now.value) + 1

abbrev pub slot_line : Slot → List ℕ
slot_line (Count n) = codes "\"doc_count\":" ++ decimal n
slot_line (Key key) = codes "\"key\":" ++ value_text key.now
slot_line (Answer answer) = quoted answer.now.name ++ (codes ":" ++ answer_text (value_of answer.now.value))

abbrev pub keyed_line : List BucketPart → ℕ → List ℕ
keyed_line buckets other =
    codes "{\"buckets\":[" ++ (elements_text false (bucket_texts (buckets_of buckets))
    ++ (codes "],\"sum_other_doc_count\":" ++ (decimal other ++ codes "}")))

abbrev pub answer_line : AggValue → List ℕ
answer_line (Single count inner) = object_text (slot_entry (Count count) ∷ answer_entries (replies_of inner))
answer_line (Buckets buckets other) = keyed_line buckets other
answer_line (Metric number) = codes "{\"value\":" ++ (metric_text number ++ codes "}")

abbrev pub bucket_text : Bucket → List ℕ
bucket_text bucket = object_text (
    entry (codes "doc_count") (decimal bucket.count) ∷ entry (codes "key") (value_text bucket.key) ∷ answer_entries (replies_of bucket.inner))
