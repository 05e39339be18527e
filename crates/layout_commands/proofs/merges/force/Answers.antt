use Rattle.std.proofs.Common.{Err, refl, subst, sym}
use Rattle.index_core.specs.Kept.{layout_kept}
use Rattle.layout.specs.Layout.{sealed}
use Rattle.layout.specs.Merges.{force_fault}
use Rattle.machine.specs.declared.merge_command.MergeCommand.TheVariants.{Force}
use Rattle.layout_commands.specs.Ends.{IsMerged}
use Rattle.layout_commands.specs.declared.not_done.NotDone.{NotDone}
use Rattle.layout_commands.proofs.Ending.{err_ends, forces, force_refused}
use Rattle.layout_commands.proofs.merges.force.Goals as goal

pub returns-in-Ok-clause-merged : goal.returns-in-Ok-clause-merged
returns-in-Ok-clause-merged c = forces c.args.most c.args.index.now c.force_merge.new.self c.in-Ok.done (c.in-Ok.ensures.accepted refl) c.in-Ok.ensures.done c.in-Ok.ensures.layout

pub returns-in-Err-clause-merged : goal.returns-in-Err-clause-merged
returns-in-Err-clause-merged c =
    let L = sealed (layout_kept c.args.index.now) in
    subst (λ (why : NotDone). IsMerged (Force c.args.most) (Err why) c.args.index.now c.force_merge.new.self) (sym c.not_done.ensures)
    (err_ends 0 (Force c.args.most) c.args.index.now c.force_merge.new.self c.in-Err.why (force_fault c.args.most L) c.in-Err.ensures.refused c.in-Err.ensures.same c.in-Err.ensures.kept (force_refused c.args.most L))
