use Rattle.std.proofs.Common.{All, subst}
use Rattle.std.proofs.lemmas.List.{take_all}
use Rattle.std.proofs.lemmas.List.Elements.{All-more}
use Rattle.segment.specs.Live.{EntryState}
use Rattle.segment_parts.specs.Agree.{AreColumns}
use Rattle.store_commands.proofs.ready.columns_agree.Goals as goal

abbrev Agree : EntryState → Type 0
Agree entry = AreColumns entry.columns

pub entries-preserved : goal.entries-preserved
entries-preserved c =
    All-more Agree c.args.entries.now c.entries.entry-index c.entry-item.result c.entries-test.true c.entries.invariant
    (subst Agree c.entry-item.is (subst AreColumns c.segment.ensures c.docs-documents.ensures.agree))

pub returns : goal.returns
returns c = subst (All Agree) (take_all c.entries.entry-index c.args.entries.now c.entries-test.false) c.entries.invariant
