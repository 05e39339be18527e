-- The answers of buckets as mathematics. A bucket has the answers to the definitions inside, so answers and buckets are
-- types of their own; what contracts see of a list is a real list of parts.
pub mod Code
pub mod View
pub mod Falls
use Rattle.std.specs.Prelude.{ℕ, ◌+◌, ℤ, List, [], ◌∷◌, Option}
use Rattle.tree_objects.specs.declared.field_value.FieldValue.{FieldValue}

mutual
  pub data Replies : Type 0 where
    no_replies : Replies
    -- name, answer, and the other answers
    with_reply : List ℕ → ReplyValue → Replies → Replies

  pub data ReplyValue : Type 0 where
    -- one bucket: its count, and the answers inside
    single : ℕ → Replies → ReplyValue
    -- a bucket for each key, and the sum of the counts of those left out
    several : Buckets → ℕ → ReplyValue
    -- a number, or null
    metric : Option ℤ → ReplyValue

  pub data Buckets : Type 0 where
    no_buckets : Buckets
    -- key, count, the answers inside, and the other buckets
    with_bucket : FieldValue → ℕ → Replies → Buckets → Buckets

pub record ReplyPart : Type 0 where
  pub name : List ℕ
  pub value : ReplyValue

pub record BucketPart : Type 0 where
  pub key : FieldValue
  pub count : ℕ
  pub inner : Replies

abbrev pub replies_of : List ReplyPart → Replies
replies_of [] = no_replies
replies_of (r ∷ rs) = with_reply r.name r.value (replies_of rs)

abbrev pub buckets_of : List BucketPart → Buckets
buckets_of [] = no_buckets
buckets_of (b ∷ bs) = with_bucket b.key b.count b.inner (buckets_of bs)

-- how many answers and buckets there are: a measure for recursions
abbrev mutual
  pub replies_size : Replies → ℕ
  replies_size no_replies = 0
  replies_size (with_reply name value rest) = 1 + (value_size value + replies_size rest)

  pub value_size : ReplyValue → ℕ
  value_size (single count inner) = 1 + replies_size inner
  value_size (several buckets other) = 1 + buckets_size buckets
  value_size (metric number) = 1

  pub buckets_size : Buckets → ℕ
  buckets_size no_buckets = 0
  buckets_size (with_bucket key count inner rest) = 1 + (replies_size inner + buckets_size rest)
