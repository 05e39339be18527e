-- Answers and buckets are larger than what they hold.
use Rattle.std.specs.Prelude.{◌+◌, ◌≤◌, ◌≡◌, List, [], ◌∷◌, refl, map}
use Rattle.std.proofs.Common.{arith}
use denote.Param.Weighed.{most}
use Rattle.query_ast.specs.Replies.{replies_of, replies_size, value_size, buckets_of, buckets_size}
use Rattle.query_ast.specs.Replies.View.{value_of, reply_part, bucket_part}
use Rattle.query_ast.specs.declared.bucket.AggReply.{AggReply}
use Rattle.query_ast.specs.declared.bucket.AggValue.{AggValue}
use Rattle.query_ast.specs.declared.bucket.AggValue.TheVariants.{Single, Buckets, Metric}
use Rattle.query_ast.specs.declared.bucket.Bucket.{Bucket}
use Rattle.query_ast.specs.declared.bucket.AggReplies.TheDeep.{deep-AggReply, deep-AggValue, deep-Bucket}
use Rattle.query_ast.specs.declared.bucket.AggReplies.TheView as replies_view
use Rattle.query_ast.specs.declared.bucket.BucketList.TheView as buckets_view

value_falls : (v : AggValue) → deep-AggValue v ≤ value_size (value_of v)
value_falls (Single count inner) = let e : replies_view.size inner ≡ replies_size (replies_of inner) = refl in omega arith
value_falls (Buckets buckets other) = let e : buckets_view.size buckets ≡ buckets_size (buckets_of buckets) = refl in omega arith
value_falls (Metric number) = omega arith

bucket_falls : (b : Bucket) → deep-Bucket b ≤ 1 + replies_size (replies_of b.inner)
bucket_falls b = let e : replies_view.size b.inner ≡ replies_size (replies_of b.inner) = refl in omega arith

pub reply_list_falls : (rs : List AggReply) → most deep-AggReply rs ≤ replies_size (replies_of (map reply_part rs))
reply_list_falls [] = omega arith
reply_list_falls (r ∷ rs) = omega (arith, value_falls r.value, reply_list_falls rs)

pub bucket_list_falls : (bs : List Bucket) → most deep-Bucket bs ≤ buckets_size (buckets_of (map bucket_part bs))
bucket_list_falls [] = omega arith
bucket_list_falls (b ∷ bs) = omega (arith, bucket_falls b, bucket_list_falls bs)
