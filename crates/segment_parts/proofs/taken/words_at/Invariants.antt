use Rattle.segment_parts.specs.Once.{AreWords}
use Rattle.segment_parts.proofs.taken.words_at.Given as goal

abbrev pub invariant-words : goal.invariant-words
invariant-words l = AreWords l.bytes l.words.items l.rest l.count l.counter
