use Rattle.std.proofs.Common.{List, ap, ◌∙◌}
use Rattle.reply_text.specs.Text.{reply_text}
use Rattle.reply_text.specs.declared.layout.SegmentRow.{SegmentRow}
use Rattle.reply_text.specs.declared.reply.Reply.TheVariants.{Checked}
use Rattle.line_engine.proofs.Sound.{checked_file}
use Rattle.line_engine.proofs.checking.checked_line.Goals as goal

pub returns-in-Ok-line_of-clause-line : goal.returns-in-Ok-line_of-clause-line
returns-in-Ok-line_of-clause-line g c = λ bytes is.
    checked_file c.args.limit bytes c.in-Ok-line_of.line.bytes c.in_ok-found.found (c.in_ok-found.ensures.found bytes is)
    (c.in-Ok-line_of.ensures ∙ ap (λ (rows : List SegmentRow). reply_text (Checked c.in_ok-found.found.next rows)) c.in-Ok.ensures)
