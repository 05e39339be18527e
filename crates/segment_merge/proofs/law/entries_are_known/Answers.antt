use Rattle.std.proofs.Common.{All, subst}
use Rattle.std.proofs.lemmas.List.{take_all}
use Rattle.std.proofs.lemmas.List.Elements.{All-more}
use Rattle.segment_merge.specs.Mergeable.{IsKnown}
use Rattle.segment_merge.proofs.law.entries_are_known.Goals as goal

pub entries-preserved : goal.entries-preserved
entries-preserved c =
    All-more IsKnown c.args.entries.now c.entries.entry-index c.entry-item.result c.entries-test.true c.entries.invariant
    (subst IsKnown c.entry-item.is c.entry_is_known.ensures)

pub returns : goal.returns
returns c = subst (All IsKnown) (take_all c.entries.entry-index c.args.entries.now c.entries-test.false) c.entries.invariant
