use Rattle.std.proofs.Common.{Err, refl, subst, sym}
use Rattle.index_core.specs.Kept.{layout_kept}
use Rattle.layout.specs.Layout.{sealed}
use Rattle.layout.specs.Merges.{step_fault}
use Rattle.machine.specs.declared.merge_command.MergeCommand.TheVariants.{Abort}
use Rattle.layout_commands.specs.Ends.{IsMerged}
use Rattle.layout_commands.specs.declared.not_done.NotDone.{NotDone}
use Rattle.layout_commands.proofs.Ending.{err_ends, aborts, abort_refused}
use Rattle.layout_commands.proofs.merges.abort.Goals as goal

pub returns-in-Ok-clause-merged : goal.returns-in-Ok-clause-merged
returns-in-Ok-clause-merged c = aborts c.args.id c.args.index.now c.abort_merge.new.self (c.in-Ok.ensures.accepted refl) c.in-Ok.ensures.layout

pub returns-in-Err-clause-merged : goal.returns-in-Err-clause-merged
returns-in-Err-clause-merged c =
    let L = sealed (layout_kept c.args.index.now) in
    subst (λ (why : NotDone). IsMerged (Abort c.args.id) (Err why) c.args.index.now c.abort_merge.new.self) (sym c.not_done.ensures)
    (err_ends c.args.id (Abort c.args.id) c.args.index.now c.abort_merge.new.self c.in-Err.why (step_fault c.args.id L) c.in-Err.ensures.refused c.in-Err.ensures.same c.in-Err.ensures.kept (abort_refused c.args.id L))
