use Rattle.std.proofs.Common.{◌≡◌, ◌-◌, ℕ, List, None, Some, sym, ap, subst, ◌∙◌, arith}
use Rattle.layout.specs.Layout.{Layout, OpenMerge}
use Rattle.layout.specs.Merges.{advanced, advanced_if, merge_named, step_fault}
use Rattle.merge_jobs.specs.Open.{OpenState}
use Rattle.flattener.specs.Block.{BlockState}
use Rattle.segment_builder.specs.Blocks.{objects_of}
use Rattle.index_core.specs.Found.{AreKept, BlocksState, layout_of, live_blocks}
use Rattle.index_core.specs.contracts.kept_blocks.KeptBlocks.{the_view}
use Rattle.index_core.specs.declared.merge.MergeDone.{MergeDone}
use Rattle.index_core.proofs.Relaying.{advanced_kept, few_entries, job_of, merges_changed, same_relaid, stepped_job}
use Rattle.index_core.proofs.kept_blocks.KeptBlocks.advance.Goals as goal

pub advancing-requires-clause-job : goal.advancing-requires-clause-job
advancing-requires-clause-job c =
    let own = stepped_job (the_view c.self.inside) c.args.id c.self.invariant (subst (λ (s : BlocksState). step_fault c.args.id (layout_of s) ≡ None) (sym c.self.view_is) c.requires.fault) in
    (own.1.job, own.1.has)

pub advancing-requires-clause-few : goal.advancing-requires-clause-few
advancing-requires-clause-few c =
    let it : BlocksState = the_view c.self.inside in
    omega (arith, c.requires.few, ap (λ (s : BlocksState). objects_of (live_blocks s.entries s.buffer)) c.self.view_is, few_entries it.entries it.buffer)

pub invariant_of-self-2 : goal.invariant_of-self-2
invariant_of-self-2 c =
    subst (AreKept c.self.inside.made c.self.inside.started c.self.inside.factor c.self.inside.view) (sym c.in_ok-left.ensures.advanced)
    (advanced_kept (the_view c.self.inside) c.args.id c.args.roots c.self.invariant)

pub returns-clause-layout : goal.returns-clause-layout
returns-clause-layout c =
    let it : BlocksState = the_view c.self.inside in
    ap (λ (js : List OpenState). layout_of (record it { jobs = js })) c.in_ok-left.ensures.advanced
    ∙ ap (λ (ms : List OpenMerge). let l : Layout BlockState = record (layout_of it) { merges = ms } in l) (merges_changed (advanced_if c.args.id c.args.roots) c.self.inside.jobs)
    ∙ ap (λ (s : BlocksState). advanced c.args.id c.args.roots (layout_of s)) c.self.view_is

pub returns-clause-done : goal.returns-clause-done
returns-clause-done c = λ merge named.
    let own = job_of c.args.id c.self.inside.jobs merge (subst (λ (s : BlocksState). merge_named c.args.id (layout_of s) ≡ Some merge) (sym c.self.view_is) named) in
    ap (λ (n : ℕ). let d : MergeDone = record { id = c.args.id; count = n } in d) (c.in_ok-left.ensures.left own.job own.found ∙ ap (λ (m : OpenMerge). m.left - c.args.roots) own.merge_is)

pub returns-clause-relaid : goal.returns-clause-relaid
returns-clause-relaid c =
    same_relaid c.args.self.now (record (the_view c.self.inside) { jobs = c.advancing.new.jobs }) (ap (λ (s : BlocksState). s.entries) c.self.view_is) (ap (λ (s : BlocksState). s.buffer) c.self.view_is) (ap (λ (s : BlocksState). s.made) c.self.view_is)
