use Rattle.std.proofs.Common.{Err, refl, subst, sym}
use Rattle.index_core.specs.Kept.{layout_kept}
use Rattle.layout.specs.Layout.{sealed}
use Rattle.layout.specs.Merges.{start_fault}
use Rattle.machine.specs.declared.merge_command.MergeCommand.TheVariants.{Start}
use Rattle.layout_commands.specs.Ends.{IsMerged}
use Rattle.layout_commands.specs.declared.not_done.NotDone.{NotDone}
use Rattle.layout_commands.proofs.Ending.{err_ends, started, start_refused}
use Rattle.layout_commands.proofs.merges.start.Goals as goal

pub returns-in-Ok-clause-merged : goal.returns-in-Ok-clause-merged
returns-in-Ok-clause-merged c = started c.args.from c.args.count c.args.index.now c.start_merge.new.self c.in-Ok.done (c.in-Ok.ensures.accepted refl) c.in-Ok.ensures.done c.in-Ok.ensures.layout

pub returns-in-Err-clause-merged : goal.returns-in-Err-clause-merged
returns-in-Err-clause-merged c =
    let L = sealed (layout_kept c.args.index.now) in
    subst (λ (why : NotDone). IsMerged (Start c.args.from c.args.count) (Err why) c.args.index.now c.start_merge.new.self) (sym c.not_done.ensures)
    (err_ends 0 (Start c.args.from c.args.count) c.args.index.now c.start_merge.new.self c.in-Err.why (start_fault c.args.from c.args.count L) c.in-Err.ensures.refused c.in-Err.ensures.same c.in-Err.ensures.kept (start_refused c.args.from c.args.count L))
