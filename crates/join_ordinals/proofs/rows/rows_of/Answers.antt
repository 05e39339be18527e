use Rattle.std.proofs.Common.{◌++◌, ◌∷◌, [], List, take, sym, subst, ap, ◌∙◌}
use Rattle.segment.specs.Live.{EntryState}
use Rattle.join_ordinals.specs.Ordinals.{AreRows}
use Rattle.join_ordinals.specs.Rows.{id_by, rows_seen}
use Rattle.join_ordinals.proofs.Numbering.{keep_on, rows_more, seen_more, take_more, whole_row}
use Rattle.join_ordinals.proofs.rows.rows_of.Goals as goal

pub entries-preserved : goal.entries-preserved
entries-preserved c =
    let before = take c.entries.entry-index c.args.entries.now in
    let new = c.row_of.new.ids in
    let more : AreRows new (id_by c.args.whose) (before ++ c.entry-item.result ∷ []) (rows_seen c.entries.rows.items ++ c.in_ok-row.row.items ∷ []) =
    rows_more c.entries.ids new (id_by c.args.whose) before (rows_seen c.entries.rows.items) c.entry-item.result c.in_ok-row.row.items c.entries.invariant.0 c.in_ok-row.ensures.keep
    (λ root. whole_row new c.args.whose c.entry-item.result c.in_ok-row.row.items root c.live-live.ensures.over c.in_ok-row.ensures.long c.in_ok-row.ensures.row) in (
      subst (λ (view : List EntryState). AreRows new (id_by c.args.whose) view (rows_seen c.push.new.self.items)) (sym (take_more c.args.entries.now c.entries.entry-index c.entry-item.result c.entries-test.true c.entry-item.is))
          (subst (AreRows new (id_by c.args.whose) (before ++ c.entry-item.result ∷ [])) (sym (ap rows_seen c.in_ok-push.ensures.items ∙ seen_more c.entries.rows.items c.in_ok-row.row)) more),
      keep_on c.args.ids.now c.entries.ids new c.entries.invariant.1 c.in_ok-row.ensures.keep,
    )
