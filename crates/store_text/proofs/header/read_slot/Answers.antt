use Rattle.std.proofs.Common.{rules, arith}
use Rattle.store_text.proofs.Slots.{slot_read}
use Rattle.store_text.proofs.header.read_slot.Goals as goal

pub returns : goal.returns
returns c = slot_read c.args.side c.args.bytes.now _ (λ i. omega (arith, c.type_inv.bytes i)) c.requires (search rules) (search rules) (search rules) (search rules)
