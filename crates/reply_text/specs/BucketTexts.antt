-- The texts of what buckets answer.
use Rattle.std.specs.Prelude.{ℕ, ℤ, List, [], ◌∷◌, Option, Some, None, codes, decimal}
use Rattle.std.specs.Fmt.{signed_decimal}
use Rattle.tree_json.specs.Text.{quoted}
use Rattle.tree_objects.specs.declared.field_value.FieldValue.{FieldValue}
use Rattle.tree_objects.specs.declared.field_value.FieldValue.TheVariants.{Number, Written}
use Rattle.query_ast.specs.Replies.{Replies, no_replies, with_reply, ReplyValue, single, several, metric, Buckets, no_buckets, with_bucket}
use Rattle.reply_text.specs.Object.{Entry, entry, object_text, list_text}

abbrev pub value_text : FieldValue → List ℕ
value_text (Number z) = signed_decimal z
value_text (Written text) = quoted text

abbrev pub metric_text : Option ℤ → List ℕ
metric_text None = codes "null"
metric_text (Some z) = signed_decimal z

abbrev mutual
  -- the answers to definitions, each under its name
  pub answer_entries : Replies → List Entry
  answer_entries no_replies = []
  answer_entries (with_reply name value answers) = entry name (answer_text value) ∷ answer_entries answers

  pub answer_text : ReplyValue → List ℕ
  answer_text (single count inner) = object_text (entry (codes "doc_count") (decimal count) ∷ answer_entries inner)
  answer_text (several buckets other) = object_text (
      entry (codes "buckets") (list_text (bucket_texts buckets)) ∷ entry (codes "sum_other_doc_count") (decimal other) ∷ [])
  answer_text (metric number) = object_text (entry (codes "value") (metric_text number) ∷ [])

  pub bucket_texts : Buckets → List (List ℕ)
  bucket_texts no_buckets = []
  bucket_texts (with_bucket key count inner buckets) =
      object_text (entry (codes "doc_count") (decimal count) ∷ entry (codes "key") (value_text key) ∷ answer_entries inner)
      ∷ bucket_texts buckets
