use Rattle.std.proofs.Common.{◌≡◌, ◌<◌, ◌++◌, List, length, sym, ap, subst, ◌∙◌}
use Rattle.segment.specs.Live.{EntryState}
use Rattle.segment_parts.specs.declared.columns.Columns.{Columns}
use Rattle.stored_sources.specs.Roots.{source_of}
use Rattle.stored_sources.specs.declared.root.Root.{Root}
use Rattle.index_core.proofs.Killing.{root_block, root_source}
use Rattle.index_core.proofs.Places.{element}
use Rattle.index_core.proofs.kept_blocks.fetch_root.Goals as goal

pub returns-clause-source : goal.returns-clause-source
returns-clause-source g c = λ block is.
    let columns : c.segment-segment.result.now ≡ is.entry.columns = c.segment-segment.ensures ∙ ap (λ (e : EntryState). e.columns) (c.index-entries-index.is ∙ (element c.args.entries.now c.args.index is.entry is.here).at c.index-entries-index.result) in
    let within : c.args.root < length c.segment-segment.result.now.roots = subst (λ (cs : Columns). c.args.root < length cs.roots) (sym columns) is.within in
    let source = root_source c.segment-segment.result.now c.args.root block c.blocks_are_whole.ensures.roots (root_block c.args.entries.now c.args.index c.args.root block c.segment-segment.result.now is columns) (c.sources.ensures.flat c.args.root within) in
    c.in_ok-fetch.ensures.source ∙ ap (λ bytes. c.args.out.now.items ++ bytes) (ap (λ (rs : List Root). source_of rs c.args.root) c.sources.ensures.roots ∙ source)
