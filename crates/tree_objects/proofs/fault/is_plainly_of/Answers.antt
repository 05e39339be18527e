use Rattle.tree_objects.proofs.Terms.{short_text}
use Rattle.tree_objects.proofs.fault.is_plainly_of.Goals as goal

pub returns-in-Text-kind : goal.returns-in-Text-kind
returns-in-Text-kind c = λ m g f path short.
    rw (c.in-Text.is, c.in-Text-kind.is) (short_text m g f path c.in-Text.text (rw c.as_str.ensures at (c.has_short_tokens.ensures short)))
