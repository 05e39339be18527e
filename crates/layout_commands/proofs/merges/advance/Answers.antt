use Rattle.std.proofs.Common.{Err, refl, subst, sym}
use Rattle.index_core.specs.Kept.{layout_kept}
use Rattle.layout.specs.Layout.{sealed}
use Rattle.layout.specs.Merges.{step_fault}
use Rattle.machine.specs.declared.merge_command.MergeCommand.TheVariants.{Advance}
use Rattle.layout_commands.specs.Ends.{IsMerged}
use Rattle.layout_commands.specs.declared.not_done.NotDone.{NotDone}
use Rattle.layout_commands.proofs.Ending.{err_ends, walked, advance_refused}
use Rattle.layout_commands.proofs.merges.advance.Goals as goal

pub returns-in-Ok-clause-merged : goal.returns-in-Ok-clause-merged
returns-in-Ok-clause-merged c = walked c.args.id c.args.index.now c.advance_merge.new.self c.args.roots c.in-Ok.done (c.in-Ok.ensures.accepted refl) c.in-Ok.ensures.done c.in-Ok.ensures.layout

pub returns-in-Err-clause-merged : goal.returns-in-Err-clause-merged
returns-in-Err-clause-merged c =
    let L = sealed (layout_kept c.args.index.now) in
    subst (λ (why : NotDone). IsMerged (Advance c.args.id c.args.roots) (Err why) c.args.index.now c.advance_merge.new.self) (sym c.not_done.ensures)
    (err_ends c.args.id (Advance c.args.id c.args.roots) c.args.index.now c.advance_merge.new.self c.in-Err.why (step_fault c.args.id L) c.in-Err.ensures.refused c.in-Err.ensures.same c.in-Err.ensures.kept (advance_refused c.args.id c.args.roots L))
