-- The parts that an `AggReply` and a `Bucket` are.
use Rattle.query_ast.specs.Replies.{ReplyPart, BucketPart, ReplyValue, single, several, metric, replies_of, buckets_of}
use Rattle.query_ast.specs.declared.bucket.AggReply.{AggReply}
use Rattle.query_ast.specs.declared.bucket.AggValue.{AggValue}
use Rattle.query_ast.specs.declared.bucket.AggValue.TheVariants.{Single, Buckets, Metric}
use Rattle.query_ast.specs.declared.bucket.Bucket.{Bucket}

abbrev pub value_of : AggValue → ReplyValue
value_of (Single count inner) = single count (replies_of inner)
value_of (Buckets buckets other) = several (buckets_of buckets) other
value_of (Metric number) = metric number

abbrev pub reply_part : AggReply → ReplyPart
reply_part reply = record { name = reply.name; value = value_of reply.value }

abbrev pub bucket_part : Bucket → BucketPart
bucket_part bucket = record { key = bucket.key; count = bucket.count; inner = replies_of bucket.inner }
