use Rattle.std.proofs.Common.{◌≡◌, sym, arith}
use Rattle.std.proofs.lemmas.List.{take_all}
use Rattle.std.proofs.lemmas.List.Elements.{All-more, All-same, recursion_from_All}
use Rattle.engine.proofs.Finding.{IsStanding, all_stand}
use Rattle.engine.proofs.entries.entries_stand.Goals as goal

pub entries-preserved : goal.entries-preserved
entries-preserved c =
    let entry = c.entry-item.result in
    let segment : c.segment.result.now ≡ entry.columns = c.segment.ensures in
    let live : c.live.result.now ≡ entry.live = c.live.ensures.live in
    let own : IsStanding entry = record { stands = λ m trees is blocks. rw (segment, live) at c.blocks_stand_for_trees.ensures m trees is blocks } in
    All-more IsStanding c.args.entries.now c.entries.entry-index entry (omega arith) c.entries.invariant (rw c.entry-item.is at own)

pub returns : goal.returns
returns c =
    all_stand c.args.entries.now
    (recursion_from_All IsStanding c.args.entries.now (All-same IsStanding c.args.entries.now _ (sym (take_all c.entries.entry-index c.args.entries.now (omega arith))) c.entries.invariant))
