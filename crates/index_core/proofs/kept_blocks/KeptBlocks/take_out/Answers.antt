use Rattle.std.proofs.Common.{map, sym, ap, subst, ◌∙◌, arith}
use Rattle.std.proofs.lemmas.List.{length-map}
use Rattle.flattener.specs.Seen.{block_seen}
use Rattle.std.specs.List.{AllZip}
use Rattle.layout.specs.Layout.{killed}
use Rattle.layout.specs.Merges.{factor_of}
use Rattle.merge_jobs.specs.Job.{IsLater}
use Rattle.merge_jobs.specs.Open.{merges_in}
use Rattle.index_core.specs.Found.{BlocksState, IsLive, IsLiveNumber, IsRootAt, columns_of, layout_of, live_blocks}
use Rattle.index_core.specs.Kept.{HaveOwnIds, has_block_id}
use Rattle.index_core.specs.declared.place.Place.TheVariants.{Root, Buffer}
use Rattle.index_core.proofs.Jobs.{died_at, kept_died}
use Rattle.index_core.proofs.Killing.{below_dead, beside, buffer_killed, columns_dead, live_root, removed, root_killed}
use Rattle.index_core.proofs.Places.{element, place_moved}
use Rattle.index_core.proofs.kept_blocks.KeptBlocks.take_out.Goals as goal

pub kill-requires : goal.kill-requires
kill-requires c =
    let is = subst (λ (s : BlocksState). IsLiveNumber s.entries s.buffer c.args.number) (sym c.self.view_is) c.requires in
    let here : IsRootAt c.self.inside.view c.in-Root.index c.in-Root.root is.block =
    place_moved c.self.inside.view c.entries.result.now (map block_seen c.self.inside.buffer.items) (map block_seen c.as_slice.result.now) c.args.number (Root c.in-Root.index c.in-Root.root) c.entries.ensures.entries (ap (map block_seen) c.as_slice.ensures.value) c.in-Root.ensures is.id is.block is.live in
    live_root c.self.inside.view c.in-Root.index c.in-Root.root is.block here

pub invariant_of-self : goal.invariant_of-self
invariant_of-self c =
    let is = subst (λ (s : BlocksState). IsLiveNumber s.entries s.buffer c.args.number) (sym c.self.view_is) c.requires in
    let here : IsRootAt c.self.inside.view c.in-Root.index c.in-Root.root is.block =
    place_moved c.self.inside.view c.entries.result.now (map block_seen c.self.inside.buffer.items) (map block_seen c.as_slice.result.now) c.args.number (Root c.in-Root.index c.in-Root.root) c.entries.ensures.entries (ap (map block_seen) c.as_slice.ensures.value) c.in-Root.ensures is.id is.block is.live in
    let put = c.in_ok-kill-in-Root.ensures.killed here.entry here.here in
    kept_died c.self.inside.made c.self.inside.started c.self.inside.factor c.self.inside.view c.kill.new.self c.self.inside.jobs
    (subst (AllZip IsLater c.self.inside.view) (sym put) (died_at c.self.inside.view c.in-Root.index c.in-Root.root here.entry here.here))
    (below_dead c.deaths_mark_blocks.ensures c.self.inside.made c.in-Root.index c.in-Root.root c.self.inside.view c.kill.new.self is.block c.self.invariant.below here put) c.self.invariant

pub returns-in_ok-kill-in-Root-clause-killed : goal.returns-in_ok-kill-in-Root-clause-killed
returns-in_ok-kill-in-Root-clause-killed c = λ id block own live.
    let own_here = subst (λ (s : BlocksState). HaveOwnIds (live_blocks s.entries s.buffer)) (sym c.self.view_is) own in
    let live_here = subst (λ (s : BlocksState). IsLive s.entries s.buffer id block c.args.number) (sym c.self.view_is) live in
    let here : IsRootAt c.self.inside.view c.in-Root.index c.in-Root.root block =
    place_moved c.self.inside.view c.entries.result.now (map block_seen c.self.inside.buffer.items) (map block_seen c.as_slice.result.now) c.args.number (Root c.in-Root.index c.in-Root.root) c.entries.ensures.entries (ap (map block_seen) c.as_slice.ensures.value) c.in-Root.ensures id block live_here in
    ap (beside (merges_in c.self.inside.jobs) c.self.inside.started (factor_of c.self.inside.factor))
    (root_killed c.deaths_mark_blocks.ensures c.self.inside.view (map block_seen c.self.inside.buffer.items) id block c.args.number c.self.inside.made own_here live_here c.in-Root.index c.in-Root.root c.kill.new.self here (c.in_ok-kill-in-Root.ensures.killed here.entry here.here))
    ∙ ap (λ (s : BlocksState). killed (has_block_id id) (layout_of s)) c.self.view_is

pub returns-in_ok-kill-in-Root-clause-columns : goal.returns-in_ok-kill-in-Root-clause-columns
returns-in_ok-kill-in-Root-clause-columns c =
    let is = subst (λ (s : BlocksState). IsLiveNumber s.entries s.buffer c.args.number) (sym c.self.view_is) c.requires in
    let here : IsRootAt c.self.inside.view c.in-Root.index c.in-Root.root is.block =
    place_moved c.self.inside.view c.entries.result.now (map block_seen c.self.inside.buffer.items) (map block_seen c.as_slice.result.now) c.args.number (Root c.in-Root.index c.in-Root.root) c.entries.ensures.entries (ap (map block_seen) c.as_slice.ensures.value) c.in-Root.ensures is.id is.block is.live in
    columns_dead c.in-Root.index c.in-Root.root c.self.inside.view c.kill.new.self is.block here (c.in_ok-kill-in-Root.ensures.killed here.entry here.here) ∙ ap (λ (s : BlocksState). columns_of s.entries) c.self.view_is

pub remove_at-requires : goal.remove_at-requires
remove_at-requires c =
    let is = subst (λ (s : BlocksState). IsLiveNumber s.entries s.buffer c.args.number) (sym c.self.view_is) c.requires in
    let at = place_moved c.self.inside.view c.entries.result.now (map block_seen c.self.inside.buffer.items) (map block_seen c.as_slice.result.now) c.args.number (Buffer c.in-Buffer.index) c.entries.ensures.entries (ap (map block_seen) c.as_slice.ensures.value) c.in-Buffer.ensures is.id is.block is.live in
    let own = element (map block_seen c.self.inside.buffer.items) c.in-Buffer.index is.block at in
    omega (arith, own.within, length-map c.self.inside.buffer.items block_seen, c.self.inside.buffer.ok.0)

pub returns-in-Buffer-clause-killed : goal.returns-in-Buffer-clause-killed
returns-in-Buffer-clause-killed c = λ id block own live.
    let own_here = subst (λ (s : BlocksState). HaveOwnIds (live_blocks s.entries s.buffer)) (sym c.self.view_is) own in
    let live_here = subst (λ (s : BlocksState). IsLive s.entries s.buffer id block c.args.number) (sym c.self.view_is) live in
    let at = place_moved c.self.inside.view c.entries.result.now (map block_seen c.self.inside.buffer.items) (map block_seen c.as_slice.result.now) c.args.number (Buffer c.in-Buffer.index) c.entries.ensures.entries (ap (map block_seen) c.as_slice.ensures.value) c.in-Buffer.ensures id block live_here in
    ap (beside (merges_in c.self.inside.jobs) c.self.inside.started (factor_of c.self.inside.factor))
    (buffer_killed c.deaths_mark_blocks.ensures c.self.inside.view (map block_seen c.self.inside.buffer.items) id block c.args.number c.self.inside.made own_here live_here c.in-Buffer.index (map block_seen c.remove_at.new.blocks.items) at (removed block_seen c.self.inside.buffer.items c.remove_at.new.blocks.items c.in-Buffer.index c.remove_at.ensures.items))
    ∙ ap (λ (s : BlocksState). killed (has_block_id id) (layout_of s)) c.self.view_is
