use Rattle.std.proofs.Common.{ℕ, ◌<◌, List, ◌++◌, length, map, codes, arith, sym, ap, ◌∙◌}
use Rattle.std.proofs.lemmas.Grind.{common_steps}
use Rattle.reply_text.specs.BucketParts.{answer_entry}
use Rattle.reply_text.specs.Object.{object_text}
use Rattle.reply_text.proofs.Commas.{three_pieces}
use Rattle.reply_text.proofs.LinePieces.{aggregations-some}
use Rattle.reply_text.proofs.found.put_aggregations.Goals as goal

-- the pieces in the order in which they are put
pub returns-clause-bytes : goal.returns-clause-bytes
returns-clause-bytes c =
    let answers = c.as_slice-answers.result.now in
    let some : 0 < length answers = grind (arith, common_steps) in
    rw (c.push_spare-2.ensures.bytes, c.put_answers.ensures.bytes, c.push_spare.ensures.bytes)
    (three_pieces c.args.into.now.bytes (codes "\"aggregations\":") (object_text (map answer_entry answers)) (codes ",")
    ∙ ap (λ (text : List ℕ). c.args.into.now.bytes ++ text) (sym (aggregations-some answers c.args.list.now c.as_slice-answers.ensures some)))
