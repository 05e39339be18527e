use Rattle.std.proofs.Common.{◌∙◌}
use Rattle.store_opening.proofs.Looking.{looked_on}
use Rattle.store_opening.proofs.holding.read_store.Goals as goal

pub returns-clause-shows : goal.returns-clause-shows
returns-clause-shows g c = λ file known.
    c.in_ok-found.ensures.shows file (c.in_ok-header.ensures.content ∙ (c.in_ok-file_len.ensures.content ∙ known))

pub returns-clause-looked : goal.returns-clause-looked
returns-clause-looked g c = looked_on (looked_on c.file_len.ensures.looked c.read_header.ensures.looked) c.read_led.ensures.looked
