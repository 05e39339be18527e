-- The pieces of answers as they are written make the objects that they are.
use Rattle.std.proofs.Common.{◌≡◌, ℕ, ◌+◌, ◌*◌, ◌<◌, List, [], ◌∷◌, ◌++◌, length, get_or, map, zero, suc, codes, decimal, false, IfSome, None, Option, Some, arith, refl, ap, ◌∙◌, append_assoc}
use Rattle.std.proofs.lemmas.List.Elements.{at_from_Contains}
use Rattle.std.proofs.lemmas.Grind.{common_steps}
use Rattle.json.specs.Print.{escape_byte}
use Rattle.tree_json.specs.Text.{quoted}
use Rattle.query_ast.specs.Replies.{replies_of, buckets_of, replies_size, value_size, buckets_size}
use Rattle.query_ast.specs.Replies.View.{value_of, reply_part, bucket_part}
use Rattle.query_ast.specs.declared.bucket.AggReply.{AggReply}
use Rattle.query_ast.specs.declared.bucket.AggValue.{AggValue}
use Rattle.query_ast.specs.declared.bucket.AggValue.TheVariants.{Single, Buckets, Metric}
use Rattle.query_ast.specs.declared.bucket.Bucket.{Bucket}
use Rattle.reply_text.specs.Object.{Entry, entry, entry_text, elements_text}
use Rattle.reply_text.specs.BucketTexts.{answer_entries, answer_text, bucket_texts, metric_text}
use Rattle.reply_text.specs.BucketParts.{answer_entry, slot_entry, slot_line, slot_size, answer_line, IsWithin}
use Rattle.reply_text.specs.Next.{closest, closer}
use Rattle.reply_text.specs.declared.buckets.Slot.{Slot}
use Rattle.reply_text.specs.declared.buckets.Slot.TheVariants.{Count, Key, Answer}
use Rattle.reply_text.proofs.Flat.{object_text-flat}
use Rattle.reply_text.proofs.Next.{above_none}

-- ---- texts

pub slot_line-entry : (slot : Slot) → entry_text (slot_entry slot) ≡ slot_line slot
unfolding quoted escape_byte
slot_line-entry (Count n) = refl
slot_line-entry (Key key) = refl
slot_line-entry (Answer answer) = refl

pub answer_line-text : (answer : AggValue) → answer_text (value_of answer) ≡ answer_line answer
unfolding quoted escape_byte
answer_line-text (Single count inner) = refl
answer_line-text (Buckets buckets other) =
    object_text-flat (entry (codes "buckets") (codes "[" ++ (elements_text false (bucket_texts (buckets_of buckets)) ++ codes "]")) ∷ entry (codes "sum_other_doc_count") (decimal other) ∷ [])
    ∙ ap (λ (text : List ℕ). codes "{\"buckets\":[" ++ text)
    (append_assoc (elements_text false (bucket_texts (buckets_of buckets))) (codes "]") (codes ",\"sum_other_doc_count\":" ++ (decimal other ++ codes "}")))
answer_line-text (Metric number) = object_text-flat (entry (codes "value") (metric_text number) ∷ [])

pub listed_answers : (answers : List AggReply) → map answer_entry answers ≡ answer_entries (replies_of (map reply_part answers))
listed_answers [] = refl
listed_answers (answer ∷ answers) = ap (λ (more : List Entry). answer_entry answer ∷ more) (listed_answers answers)

-- ---- the next thing

pub closest-append : (last : Option (List ℕ)) (found : Option Entry) (xs ys : List Entry) → closest last found (xs ++ ys) ≡ closest last (closest last found xs) ys
closest-append last found [] ys = refl
closest-append last found (x ∷ xs) ys = closest-append last (closer last found x) xs ys

-- what stands besides answers is none of them
pub heads_within : (answers : List AggReply) (found : Option Slot) → IfSome found (IsWithin []) → IfSome found (IsWithin answers)
heads_within answers None within = tt
heads_within answers (Some (Count n)) within = tt
heads_within answers (Some (Key key)) within = tt
heads_within answers (Some (Answer answer)) within = absurd (omega (arith, within.1))

-- ---- sizes

answer_size_at : (answers : List AggReply) (k : ℕ) (answer : AggReply) → k < length answers → get_or answers k answer ≡ answer
    → value_size (value_of answer.value) < replies_size (replies_of (map reply_part answers))
answer_size_at [] k answer h e = absurd (omega arith)
answer_size_at (first ∷ answers) zero answer h e =
    let same : value_size (value_of first.value) ≡ value_size (value_of answer.value) = ap (λ (a : AggReply). value_size (value_of a.value)) e in
    omega arith
answer_size_at (first ∷ answers) (suc k) answer h e =
    let more : k < length answers = omega arith in
    omega (arith, answer_size_at answers k answer more e)

pub slot_size-within : (answers : List AggReply) (slot : Slot) → IsWithin answers slot → slot_size slot < 3 * replies_size (replies_of (map reply_part answers)) + 1
slot_size-within answers (Count n) h = omega arith
slot_size-within answers (Key key) h = omega arith
slot_size-within answers (Answer answer) h =
    let at = at_from_Contains answers answer.now h in
    omega (arith, answer_size_at answers at.0 answer.now at.1 (at.2 answer.now))

pub bucket_size_at : (buckets : List Bucket) (k : ℕ) (d : Bucket) → k < length buckets
    → replies_size (replies_of (get_or buckets k d).inner) < buckets_size (buckets_of (map bucket_part buckets))
bucket_size_at [] k d h = absurd (omega arith)
bucket_size_at (first ∷ buckets) zero d h = omega arith
bucket_size_at (first ∷ buckets) (suc k) d h = let more : k < length buckets = omega arith in omega (arith, bucket_size_at buckets k d more)

pub ruleset lines = (common_steps, listed_answers, slot_line-entry, answer_line-text)

pub ruleset answers = (common_steps, above_none, slot_line-entry, slot_size-within)

pub ruleset sizes = (common_steps, bucket_size_at)
