use Rattle.tree_json.specs.Text.{comma_if}
use Rattle.reply_text.specs.HitParts.{hit_line}
use Rattle.reply_text.specs.HitTexts.{hit_text}
use Rattle.reply_text.proofs.Commas.{behind_comma}
use Rattle.reply_text.proofs.HitLines.{hit_line-text}
use Rattle.reply_text.proofs.hits.put_hit.Goals as goal

pub returns-clause-bytes : goal.returns-clause-bytes
returns-clause-bytes c =
    let hit = c.args.hit.now in
    behind_comma c.args.into.now.bytes c.put_comma.new.into.bytes c.put_hit_line.new.into.bytes (comma_if c.args.later) (hit_line hit) (hit_text hit)
    c.put_comma.ensures.bytes c.put_hit_line.ensures.bytes (hit_line-text hit)
