use Rattle.std.proofs.Common.{◌≡◌, ◌≤◌, ◌++◌, ◌∷◌, [], ℕ, List, length, slice_get, Some, append-nil, arith, ap, sym, subst, ◌∙◌}
use Rattle.std.specs.List.{filter}
use Rattle.std.proofs.lemmas.List.{drop_all}
use Rattle.segment.specs.Flat.{has_some}
use Rattle.segment_parts.specs.declared.columns.Columns.{Columns}
use Rattle.segment_merge.specs.Pieces.{columns_in}
use Rattle.segment_merge.proofs.Pieced.{columns_more}
use Rattle.segment_merge.proofs.pieces.add_pieces.Goals as goal

pub columns-preserved : goal.columns-preserved
columns-preserved g c =
    let columns : List (ℕ × List (ℕ × List g.row.T.Denot)) = g.T.MergedValue.columns c.args.part.now.entry.columns in
    let renew : g.row.T.Denot → g.row.T.Denot = g.T.MergedValue.renewed c.args.ordinals.now in
    let field = c.column_at-field.result.0 in
    let is : slice_get columns c.columns.at ≡ Some c.column_at-field.result =
    subst (λ (s : Columns). slice_get (g.T.MergedValue.columns s) c.columns.at ≡ Some c.column_at-field.result) c.segment-segment.ensures.segment c.column_at-field.ensures.column in
    columns_more renew c.args.part.now columns c.columns.at field c.column_at-field.result.1 c.columns.pieces.items c.add_piece.new.pieces.items
    (c.args.pieces.now.items ++ filter has_some (columns_in renew c.args.part.now columns))
    is
    (c.in_ok-add_piece.ensures ∙ ap (λ (rows : List (ℕ × List g.row.T.Denot)). c.columns.pieces.items ++ filter has_some ((field, rows) ∷ [])) c.of.ensures)
    c.columns.invariant

pub returns : goal.returns
returns g c =
    let columns : List (ℕ × List (ℕ × List g.row.T.Denot)) = g.T.MergedValue.columns c.args.part.now.entry.columns in
    let renew : g.row.T.Denot → g.row.T.Denot = g.T.MergedValue.renewed c.args.ordinals.now in
    let long : length columns ≤ c.columns.at =
    omega (arith, c.columns-test.false, c.column_count-at-end.ensures, ap (λ (s : Columns). length (g.T.MergedValue.columns s)) c.segment-segment.ensures.segment) in
    sym (append-nil c.columns.pieces.items)
    ∙ ap (λ (rest : List (ℕ × List (ℕ × List g.row.T.Denot))). c.columns.pieces.items ++ filter has_some (columns_in renew c.args.part.now rest)) (sym (drop_all c.columns.at columns long))
    ∙ c.columns.invariant
