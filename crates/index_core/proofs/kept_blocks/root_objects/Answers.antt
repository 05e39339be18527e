use Rattle.std.proofs.Common.{◌≡◌, ℕ, ap, ◌∙◌, arith}
use Rattle.segment.specs.Live.{EntryState}
use Rattle.index_core.proofs.Killing.{root_block}
use Rattle.index_core.proofs.Places.{element}
use Rattle.index_core.proofs.kept_blocks.root_objects.Goals as goal

pub returns : goal.returns
returns c = λ block is.
    let columns : c.segment-segment.result.now ≡ is.entry.columns = c.segment-segment.ensures ∙ ap (λ (e : EntryState). e.columns) (c.index-entries-index.is ∙ (element c.args.entries.now c.args.index is.entry is.here).at c.index-entries-index.result) in
    let long = c.blocks_are_whole.ensures.lengths c.args.root block (root_block c.args.entries.now c.args.index c.args.root block c.segment-segment.result.now is columns) in
    omega (arith, long, ap (λ (range : ℕ × ℕ). range.0) c.block-from.ensures.range, ap (λ (range : ℕ × ℕ). range.1) c.block-from.ensures.range)
