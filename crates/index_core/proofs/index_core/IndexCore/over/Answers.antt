use Rattle.std.proofs.Common.{List, [], sym, subst}
use Rattle.segment.specs.Live.{EntryState}
use Rattle.index_core.specs.Kept.{HaveOwnIds}
use Rattle.index_core.proofs.Entering.{live_of, own_both}
use Rattle.index_core.proofs.index_core.IndexCore.over.Goals as goal

pub read_entries-requires-clause-ids : goal.read_entries-requires-clause-ids
read_entries-requires-clause-ids c = subst (λ (es : List EntryState). HaveOwnIds (live_of es)) (sym c.entries.ensures.entries) (own_both (live_of c.args.view) [] c.requires.blocks.ids).0
