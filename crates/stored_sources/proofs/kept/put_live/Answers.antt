use Rattle.std.proofs.Common.{◌++◌, get_or, map, take, sym, ap, ap₂, ◌∙◌, append_assoc}
use Rattle.std.proofs.lemmas.List.{get_or_default}
use Rattle.stored_sources.specs.Roots.{root_of}
use Rattle.stored_sources.specs.Text.{root_text, roots_text}
use Rattle.stored_sources.specs.Kept.{roots_in}
use Rattle.stored_sources.proofs.Rows.{row_text, live_more}
use Rattle.stored_sources.proofs.kept.put_live.Goals as goal

pub live-preserved : goal.live-preserved
live-preserved c =
    let places = c.args.places.now in
    let bytes = c.args.bytes.now in
    let live = c.args.live.now in
    let at = c.live.root-index in
    let own = get_or live at 0 in
    let roots = roots_in places bytes in
    c.in_ok-extend_from_slice.ensures.items
    ∙ ap₂ (λ front last. front ++ last) c.live.invariant (c.row.ensures ∙ row_text places bytes own c.requires.kept (c.requires.within at 0 c.live-test.true))
    ∙ append_assoc c.args.into.now.items (roots_text (map (root_of roots) (take at live))) (root_text (root_of roots own))
    ∙ ap (λ all. c.args.into.now.items ++ all) (sym (live_more roots live at own c.live-test.true (get_or_default live at 0 own c.live-test.true)))
