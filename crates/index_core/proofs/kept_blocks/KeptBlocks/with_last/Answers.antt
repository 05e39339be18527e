use Rattle.std.proofs.Common.{◌≡◌, [], List, map, sym, ap, subst, ◌∙◌}
use Rattle.std.specs.List.{All}
use Rattle.flattener.specs.Fits.{BlockFits}
use Rattle.flattener.specs.Seen.{block_seen}
use Rattle.flattener.specs.declared.document.Block.{Block}
use Rattle.layout.specs.Layout.{with_buffer_last}
use Rattle.segment.specs.Live.{EntryState}
use Rattle.view_merge.specs.Given.{IsKeptOrMade}
use Rattle.index_core.specs.Found.{AreBelow, AreFit, BlocksState, layout_of, layout_ready}
use Rattle.index_core.specs.Kept.{laid}
use Rattle.index_core.specs.contracts.kept_blocks.KeptBlocks.{the_view}
use Rattle.index_core.specs.declared.ready.Ready.{Ready}
use Rattle.index_core.proofs.Sealing.{last_ready}
use Rattle.index_core.proofs.kept_blocks.KeptBlocks.with_last.Goals as goal

pub push_last-requires-clause-below : goal.push_last-requires-clause-below
push_last-requires-clause-below c = subst (AreBelow c.self.inside.made) (sym c.in_ok-view.ensures) c.self.invariant.below

pub returns-clause-last : goal.returns-clause-last
returns-clause-last c =
    let it : BlocksState = the_view c.self.inside in
    let ready : Ready = record { view = c.push_last.new.view; made = c.push_last.new.made; merges = c.in_ok-merges.merges } in
    let last : laid ready.view [] ready.made ≡ with_buffer_last (laid it.entries it.buffer it.made) =
    c.in_ok-push_last.ensures.last
    ∙ ap (λ (es : List EntryState). with_buffer_last (laid es (map block_seen c.as_slice.result.now) it.made)) c.in_ok-view.ensures
    ∙ ap (λ (bs : List Block). with_buffer_last (laid it.entries (map block_seen bs) it.made)) c.as_slice.ensures.value in
    subst (λ (s : BlocksState). layout_ready ready s.started s.factor ≡ with_buffer_last (layout_of s)) c.self.view_is (last_ready it ready last c.in_ok-merges.ensures)

pub returns-clause-entries : goal.returns-clause-entries
returns-clause-entries c =
    subst (λ (s : BlocksState). All (IsKeptOrMade s.entries s.made) c.push_last.new.view) c.self.view_is
    (subst (λ (es : List EntryState). All (IsKeptOrMade es c.self.inside.made) c.push_last.new.view) c.in_ok-view.ensures c.in_ok-push_last.ensures.entries)

pub returns-clause-fits : goal.returns-clause-fits
returns-clause-fits c = λ m is buffer fit.
    let blocks = subst (λ (bs : List Block). All (BlockFits m) (map block_seen bs)) (sym c.as_slice.ensures.value) (subst (λ (s : BlocksState). All (BlockFits m) s.buffer) (sym c.self.view_is) buffer) in
    c.in_ok-push_last.ensures.fits m is blocks (subst (AreFit m) (sym c.in_ok-view.ensures) (subst (λ (s : BlocksState). AreFit m s.entries) (sym c.self.view_is) fit))
