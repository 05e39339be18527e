use Rattle.request_form.proofs.Formed.{asked_moves}
use Rattle.request_form.proofs.law.moves_are_formed.Goals as goal

pub returns : goal.returns
returns c = asked_moves
