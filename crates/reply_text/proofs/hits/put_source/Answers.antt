use Rattle.std.proofs.Common.{codes, append_assoc}
use Rattle.reply_text.proofs.hits.put_source.Goals as goal

-- the name, and then the text
pub returns-in-Some-clause-bytes : goal.returns-in-Some-clause-bytes
returns-in-Some-clause-bytes c =
    rw c.in-Some.is
    (cc (
      append_assoc c.args.into.now.bytes (codes ",\"_source\":") c.as_slice.result.now,
      c.push_spare.ensures.bytes,
      c.push_spare-in-Some.ensures.bytes,
      c.as_slice.ensures,
    ))
