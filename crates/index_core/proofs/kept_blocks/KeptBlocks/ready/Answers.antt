use Rattle.std.proofs.Common.{◌≡◌, ◌<◌, ◌≤◌, map, sym, subst, arith}
use Rattle.flattener.specs.Fits.{most_live}
use Rattle.layout.specs.Layout.{sealed, with_buffer_last}
use Rattle.merge_jobs.specs.Open.{merges_in, merges_shown, placeless}
use Rattle.segment_builder.specs.Blocks.{objects_of}
use Rattle.index_core.specs.Found.{AreOpenOf, BlocksState, layout_of, layout_ready, live_blocks}
use Rattle.index_core.specs.contracts.kept_blocks.KeptBlocks.{the_view}
use Rattle.index_core.proofs.Relaying.{opened_of}
use Rattle.index_core.proofs.Settled.{last_is, last_sealed, ready_placeless, settled_sealed}
use Rattle.index_core.proofs.kept_blocks.KeptBlocks.ready.Goals as goal

pub returns-in_err-last-clause-open : goal.returns-in_err-last-clause-open
returns-in_err-last-clause-open c = subst (λ (s : BlocksState). AreOpenOf (layout_of s)) c.self.view_is (opened_of (the_view c.self.inside) c.entries-entries.ensures.ids c.self.invariant)

pub returns-then-self-eq0-clause-sealed : goal.returns-then-self-eq0-clause-sealed
returns-then-self-eq0-clause-sealed c =
    let it : BlocksState = the_view c.self.inside in
    let last = subst (λ (s : BlocksState). layout_ready c.in_ok-last.last s.started s.factor ≡ with_buffer_last (layout_of s)) (sym c.self.view_is) c.in_ok-last.ensures.last in
    subst (λ (s : BlocksState). layout_ready c.in_ok-last.last s.started s.factor ≡ sealed (layout_of s)) c.self.view_is (last_sealed it (layout_ready c.in_ok-last.last it.started it.factor) c.if-self-eq0.true last)

pub returns-then-self-eq0-clause-open : goal.returns-then-self-eq0-clause-open
returns-then-self-eq0-clause-open c = subst (λ (s : BlocksState). AreOpenOf (layout_of s)) c.self.view_is (opened_of (the_view c.self.inside) c.entries-entries.ensures.ids c.self.invariant)

pub settled_ready-requires-clause-open : goal.settled_ready-requires-clause-open
settled_ready-requires-clause-open c =
    let it : BlocksState = the_view c.self.inside in
    let last = subst (λ (s : BlocksState). layout_ready c.in_ok-last.last s.started s.factor ≡ with_buffer_last (layout_of s)) (sym c.self.view_is) c.in_ok-last.ensures.last in
    let few = subst (λ (s : BlocksState). objects_of (live_blocks s.entries s.buffer) ≤ most_live) (sym c.self.view_is) c.requires.few in
    (it.started, (last_is it c.in_ok-last.last c.self.invariant last few).open_are)

pub settled_ready-requires-clause-few : goal.settled_ready-requires-clause-few
settled_ready-requires-clause-few c =
    let it : BlocksState = the_view c.self.inside in
    let last = subst (λ (s : BlocksState). layout_ready c.in_ok-last.last s.started s.factor ≡ with_buffer_last (layout_of s)) (sym c.self.view_is) c.in_ok-last.ensures.last in
    let few = subst (λ (s : BlocksState). objects_of (live_blocks s.entries s.buffer) ≤ most_live) (sym c.self.view_is) c.requires.few in
    (last_is it c.in_ok-last.last c.self.invariant last few).few

pub returns-in_err-settled_ready-clause-open : goal.returns-in_err-settled_ready-clause-open
returns-in_err-settled_ready-clause-open c = subst (λ (s : BlocksState). AreOpenOf (layout_of s)) c.self.view_is (opened_of (the_view c.self.inside) c.entries-entries.ensures.ids c.self.invariant)

pub returns-clause-sealed : goal.returns-clause-sealed
returns-clause-sealed c =
    let it : BlocksState = the_view c.self.inside in
    let last = subst (λ (s : BlocksState). layout_ready c.in_ok-last.last s.started s.factor ≡ with_buffer_last (layout_of s)) (sym c.self.view_is) c.in_ok-last.ensures.last in
    let now = c.in_ok-settled_ready.field-0 in
    let some : 0 < it.factor = omega (arith, c.if-self-eq0.false) in
    let is = settled_sealed it c.in_ok-last.last now some (c.in_ok-settled_ready.ensures.settled it.started) last in
    subst (λ (s : BlocksState). layout_ready now s.started s.factor ≡ sealed (layout_of s)) c.self.view_is is

pub returns-clause-placeless : goal.returns-clause-placeless
returns-clause-placeless c =
    let it : BlocksState = the_view c.self.inside in
    let last = subst (λ (s : BlocksState). layout_ready c.in_ok-last.last s.started s.factor ≡ with_buffer_last (layout_of s)) (sym c.self.view_is) c.in_ok-last.ensures.last in
    let now = c.in_ok-settled_ready.field-0 in
    let some : 0 < it.factor = omega (arith, c.if-self-eq0.false) in
    let is = settled_sealed it c.in_ok-last.last now some (c.in_ok-settled_ready.ensures.settled it.started) last in
    subst (λ (s : BlocksState). map placeless (merges_shown now.merges.items) ≡ map placeless (merges_in s.jobs)) c.self.view_is (ready_placeless it now is)

pub returns-clause-open : goal.returns-clause-open
returns-clause-open c = subst (λ (s : BlocksState). AreOpenOf (layout_of s)) c.self.view_is (opened_of (the_view c.self.inside) c.entries-entries.ensures.ids c.self.invariant)
