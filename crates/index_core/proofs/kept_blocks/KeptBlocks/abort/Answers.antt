use Rattle.std.proofs.Common.{◌≡◌, List, None, sym, ap, subst, ◌∙◌}
use Rattle.layout.specs.Layout.{Layout, OpenMerge}
use Rattle.layout.specs.Merges.{aborted, step_fault}
use Rattle.merge_jobs.specs.Open.{OpenState}
use Rattle.flattener.specs.Block.{BlockState}
use Rattle.index_core.specs.Found.{AreKept, BlocksState, layout_of}
use Rattle.index_core.specs.contracts.kept_blocks.KeptBlocks.{the_view}
use Rattle.index_core.proofs.Relaying.{closed_kept, merges_without, same_relaid, some_named}
use Rattle.index_core.proofs.kept_blocks.KeptBlocks.abort.Goals as goal

pub close-requires-clause-open : goal.close-requires-clause-open
close-requires-clause-open c = some_named c.args.id c.self.inside.jobs (subst (λ (s : BlocksState). step_fault c.args.id (layout_of s) ≡ None) (sym c.self.view_is) c.requires)

pub invariant_of-self : goal.invariant_of-self
invariant_of-self c =
    subst (AreKept c.self.inside.made c.self.inside.started c.self.inside.factor c.self.inside.view) (sym c.close.ensures) (closed_kept (the_view c.self.inside) c.args.id c.self.invariant)

pub returns-clause-layout : goal.returns-clause-layout
returns-clause-layout c =
    let it : BlocksState = the_view c.self.inside in
    ap (λ (js : List OpenState). layout_of (record it { jobs = js })) c.close.ensures
    ∙ ap (λ (ms : List OpenMerge). let l : Layout BlockState = record (layout_of it) { merges = ms } in l) (merges_without c.args.id c.self.inside.jobs)
    ∙ ap (λ (s : BlocksState). aborted c.args.id (layout_of s)) c.self.view_is

pub returns-clause-relaid : goal.returns-clause-relaid
returns-clause-relaid c =
    same_relaid c.args.self.now (record (the_view c.self.inside) { jobs = c.close.new.self }) (ap (λ (s : BlocksState). s.entries) c.self.view_is) (ap (λ (s : BlocksState). s.buffer) c.self.view_is) (ap (λ (s : BlocksState). s.made) c.self.view_is)
