use Rattle.stored_sources.proofs.Found.{one_text}
use Rattle.stored_sources.proofs.root.roots_have_one_text.Goals as goal

pub returns : goal.returns
returns c = λ roots others rest more long are other_are same. one_text roots others rest more long are.each other_are.each same
