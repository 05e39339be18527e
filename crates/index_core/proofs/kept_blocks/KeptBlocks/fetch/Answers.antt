use Rattle.std.proofs.Common.{◌++◌, map, sym, ap, subst, ◌∙◌}
use Rattle.flattener.specs.Seen.{block_seen}
use Rattle.index_core.specs.Found.{BlocksState, IsLive}
use Rattle.index_core.specs.declared.place.Place.TheVariants.{Buffer}
use Rattle.index_core.proofs.Places.{buffered_source, place_moved}
use Rattle.index_core.proofs.kept_blocks.KeptBlocks.fetch.Goals as goal

pub returns-in_ok-extend_from_slice-in-Buffer-clause-source : goal.returns-in_ok-extend_from_slice-in-Buffer-clause-source
returns-in_ok-extend_from_slice-in-Buffer-clause-source g c = λ id block live.
    let live_here = subst (λ (s : BlocksState). IsLive s.entries s.buffer id block c.args.number) (sym c.self.view_is) live in
    let at = place_moved c.self.inside.view c.entries.result.now (map block_seen c.self.inside.buffer.items) (map block_seen c.as_slice.result.now) c.args.number (Buffer c.in-Buffer.index) c.entries.ensures.entries (ap (map block_seen) c.as_slice.ensures.value) c.in-Buffer.ensures id block live_here in
    c.in_ok-extend_from_slice-in-Buffer.ensures.items
    ∙ ap (λ bytes. c.args.out.now.items ++ bytes) (c.as_slice-in-Buffer.ensures ∙ buffered_source c.self.inside.buffer.items c.in-Buffer.index c.index.result.now block at c.index.ensures)
