use Rattle.std.proofs.Common.{◌<◌, length, arith}
use Rattle.segment_parts.specs.Lists.{postings_of}
use Rattle.segment_merge.specs.TermRefs.{TermPlace, place_lent}
use Rattle.segment_merge.proofs.Items.{item_meets}
use Rattle.segment_merge.proofs.terms.put_members.Goals as goal

pub put_live-requires-clause-there : goal.put_live-requires-clause-there
put_live-requires-clause-there c =
    item_meets (λ (term : TermPlace). term.ordinal < length (postings_of term.part.entry.columns)) place_lent c.args.places.now c.places.term-index c.term-item.result c.requires.there (omega arith) c.term-item.is
