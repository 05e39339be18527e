use Rattle.std.proofs.Common.{◌++◌, ℕ, List, ap, ◌∙◌}
use Rattle.index_core.specs.Kept.{live_block}
use Rattle.index_core.specs.Write.{source_of}
use Rattle.tree_json.specs.View.{view}
use Rattle.engine.proofs.Updating.{live_value, source_left}
use Rattle.engine.proofs.write.updated_live.Goals as goal

pub updated-requires-clause-live : goal.updated-requires-clause-live
updated-requires-clause-live g c =
    live_value c.args.id.now c.as_slice.result.now c.args.index.now c.requires.values c.requires.live
    (c.as_slice.ensures.value ∙ c.in_ok-_live.ensures.source ∙ ap (λ (front : List ℕ). front ++ source_of (live_block c.args.id.now c.args.index.now)) c.new-text.ensures.items)

pub returns-clause-source : goal.returns-clause-source
returns-clause-source g c =
    let live = live_value c.args.id.now c.as_slice.result.now c.args.index.now c.requires.values c.requires.live
    (c.as_slice.ensures.value ∙ c.in_ok-_live.ensures.source ∙ ap (λ (front : List ℕ). front ++ source_of (live_block c.args.id.now c.args.index.now)) c.new-text.ensures.items) in
    source_left (view c.args.doc) live.0 c.in_ok-updated.field-0 c.requires.doc (c.in_ok-updated.ensures.updated live.0 live.1) c.in_ok-updated.ensures.levels
