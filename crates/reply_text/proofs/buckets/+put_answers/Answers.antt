use Rattle.std.proofs.Common.{codes, decimal, false}
use Rattle.query_ast.specs.Replies.{buckets_of}
use Rattle.reply_text.specs.BucketTexts.{bucket_texts}
use Rattle.reply_text.specs.Object.{elements_text}
use Rattle.reply_text.proofs.Commas.{five_pieces}
use Rattle.reply_text.proofs.buckets.+put_answers.Goals as goal

-- the pieces in the order in which they are put
pub put_keyed-returns-clause-bytes : goal.put_keyed-returns-clause-bytes
put_keyed-returns-clause-bytes t c =
    rw (c.push_spare-3.ensures.bytes, c.put_count.ensures.bytes, c.push_spare-2.ensures.bytes, c.put_buckets.ensures.bytes, c.push_spare.ensures.bytes, c.as_slice.ensures)
    (five_pieces c.args.into.now.bytes (codes "{\"buckets\":[") (elements_text false (bucket_texts (buckets_of c.args.buckets.now))) (codes "],\"sum_other_doc_count\":") (decimal c.args.other) (codes "}"))
