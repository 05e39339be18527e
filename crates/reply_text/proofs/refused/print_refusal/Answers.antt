use Rattle.reply_text.proofs.refused.print_refusal.Goals as goal

-- number, reason and the rest are those of the refusal
pub returns : goal.returns
returns c = rw (c.as_bytes.ensures.value, c.known-number.ensures.number, c.known-number.ensures.reason, c.further_of.ensures) at c.print_told.ensures
