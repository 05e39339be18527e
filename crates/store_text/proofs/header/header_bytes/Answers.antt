use Rattle.std.proofs.Common.{refl, rules}
use Rattle.store_text.proofs.Slots.{new_zeros}
use Rattle.store_text.proofs.header.header_bytes.Goals as goal

pub returns-clause-zeros : goal.returns-clause-zeros
returns-clause-zeros c = new_zeros c.copy_from_slice.new.self _ 2048 (search rules) refl
