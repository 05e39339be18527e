use Rattle.std.proofs.Common.{codes, decimal, false, map}
use Rattle.query_ast.specs.Replies.{replies_of}
use Rattle.reply_text.specs.BucketTexts.{answer_entries}
use Rattle.reply_text.specs.HitTexts.{hit_text}
use Rattle.reply_text.specs.LineParts.{aggregations_part, found_part}
use Rattle.reply_text.specs.Object.{elements_text}
use Rattle.reply_text.proofs.Commas.{six_pieces}
use Rattle.reply_text.proofs.found.put_found.Goals as goal

-- the pieces in the order in which they are put
pub returns-clause-bytes : goal.returns-clause-bytes
unfolding found_part
returns-clause-bytes c =
    rw (c.push_spare-3.ensures.bytes, c.put_count.ensures.bytes, c.push_spare-2.ensures.bytes, c.put_hits.ensures.bytes, c.push_spare.ensures.bytes, c.put_aggregations.ensures.bytes, c.as_slice.ensures)
    (six_pieces c.args.into.now.bytes (aggregations_part (answer_entries (replies_of c.args.answers.now))) (codes "\"hits\":{\"hits\":[") (elements_text false (map hit_text c.args.page.now.hits)) (codes "],\"total\":") (decimal c.args.page.now.total) (codes "}"))
