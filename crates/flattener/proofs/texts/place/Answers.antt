use Rattle.flattener.proofs.Wording.{words_placed}
use Rattle.flattener.proofs.texts.place.Goals as goal

pub returns-clause-placed : goal.returns-clause-placed
returns-clause-placed c = words_placed (λ t. t.0.items) (λ t. t.1) _ _ c.args.from _ c.in_ok-push_words.ensures.words c.in_ok-push_words.ensures.numbers
