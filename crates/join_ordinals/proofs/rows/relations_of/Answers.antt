use Rattle.std.proofs.Common.{◌++◌, ◌∷◌, [], List, take, sym, subst, ap, ◌∙◌}
use Rattle.segment.specs.Live.{EntryState}
use Rattle.join_ordinals.specs.Ordinals.{AreRelations}
use Rattle.join_ordinals.specs.Rows.{rows_seen}
use Rattle.join_ordinals.proofs.Numbering.{relations_more, seen_more, take_more, whole_relations}
use Rattle.join_ordinals.proofs.rows.relations_of.Goals as goal

pub entries-preserved : goal.entries-preserved
entries-preserved c =
    let before = take c.entries.entry-index c.args.entries.now in
    let more : AreRelations (before ++ c.entry-item.result ∷ []) (rows_seen c.entries.rows.items ++ c.in_ok-row.row.items ∷ []) =
    relations_more before (rows_seen c.entries.rows.items) c.entry-item.result c.in_ok-row.row.items c.entries.invariant
    (λ root. whole_relations c.entry-item.result c.in_ok-row.row.items root c.live-live.ensures.over c.in_ok-row.ensures) in
    subst (λ (view : List EntryState). AreRelations view (rows_seen c.push.new.self.items)) (sym (take_more c.args.entries.now c.entries.entry-index c.entry-item.result c.entries-test.true c.entry-item.is))
    (subst (AreRelations (before ++ c.entry-item.result ∷ [])) (sym (ap rows_seen c.in_ok-push.ensures.items ∙ seen_more c.entries.rows.items c.in_ok-row.row)) more)
