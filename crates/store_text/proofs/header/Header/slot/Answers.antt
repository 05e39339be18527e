use Rattle.store_text.proofs.header.Header.slot.Goals as goal

pub returns-in-B : goal.returns-in-B
returns-in-B c = λ file is. rw c.in-B.is is.b
