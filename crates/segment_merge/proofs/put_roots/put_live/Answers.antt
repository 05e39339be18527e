use Rattle.std.proofs.Common.{◌≡◌, ◌<◌, ◌++◌, ℕ, List, Bool, length, map, sym, ap, ap₂, subst, ◌∙◌}
use Rattle.std.specs.List.{All}
use Rattle.segment_parts.specs.Text.{marked_places}
use Rattle.segment_parts.specs.declared.columns.Columns.{Columns}
use Rattle.stored_sources.specs.Roots.{no_root, root_of}
use Rattle.stored_sources.specs.Text.{roots_text}
use Rattle.stored_sources.specs.declared.root.Root.{Root}
use Rattle.segment_merge.proofs.Listed.{places_below}
use Rattle.segment_merge.proofs.Marked.{items_at}
use Rattle.segment_merge.proofs.put_roots.put_live.Goals as goal

pub append_live-requires : goal.append_live-requires
append_live-requires c =
    let flags : List Bool = c.args.part.now.entry.live.roots in
    let places : c.as_slice.result.now ≡ marked_places 0 flags = c.as_slice.ensures.value ∙ c.in_ok-live.ensures ∙ ap (marked_places 0) c.live_roots.ensures in
    let roots : c.sources.result ≡ c.args.part.now.entry.columns.roots = c.sources.ensures.roots ∙ ap (λ (cs : Columns). cs.roots) c.segment.ensures.segment in
    let long : length flags ≡ length c.sources.result = c.segment.ensures.live.roots ∙ sym (ap (λ (rs : List Root). length rs) roots) in
    subst (λ (ps : List ℕ). All (λ place. place < length c.sources.result) ps) (sym places) (places_below flags (length c.sources.result) long)

pub returns : goal.returns
returns c =
    let flags : List Bool = c.args.part.now.entry.live.roots in
    let own : List Root = c.args.part.now.entry.columns.roots in
    let places : c.as_slice.result.now ≡ marked_places 0 flags = c.as_slice.ensures.value ∙ c.in_ok-live.ensures ∙ ap (marked_places 0) c.live_roots.ensures in
    let roots : c.sources.result ≡ own = c.sources.ensures.roots ∙ ap (λ (cs : Columns). cs.roots) c.segment.ensures.segment in
    c.in_ok-append_live.ensures.appended
    ∙ ap₂ (λ (rs : List Root) (ps : List ℕ). c.args.into.now.items ++ roots_text (map (root_of rs) ps)) roots places
    ∙ ap (λ (rs : List Root). c.args.into.now.items ++ roots_text rs) (items_at no_root flags 0 own (sym c.segment.ensures.live.roots))
