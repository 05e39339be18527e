use Rattle.std.proofs.Common.{◌≡◌, ◌<◌, ◌++◌, ◌∷◌, [], List, get_or, length, map, pos, take, sym, ap, ◌∙◌, arith}
use Rattle.std.proofs.lemmas.List.{map-append, take_more}
use Rattle.hit_order.specs.declared.column.RowPlace.{RowPlace}
use Rattle.nested_sort.specs.Listed.{no_hit}
use Rattle.query_ast.specs.declared.sort.KeyRow.{KeyRow}
use Rattle.view_objects.specs.declared.hit.Hit.{Hit}
use Rattle.inner_hits.proofs.rows.picked.Goals as goal

abbrev none : KeyRow
none = record { keys = []; place = 0; doc = 0; number = pos 0 }

pub rows-preserved : goal.rows-preserved
rows-preserved c =
    let hits = c.args.hits.now in
    let rows = c.args.page.now.rows in
    let at = c.rows.at in
    let low : at < length rows = omega (arith, c.rows-test.true, c.len-at-end.ensures) in
    let one : c.hit_at.result ≡ get_or hits (get_or rows at none).place no_hit = c.hit_at.ensures ∙ ap (λ (p : RowPlace). get_or hits p.place no_hit) (c.place.ensures none) in
    c.in_ok-push.ensures.items
    ∙ ap (λ (l : List Hit). l ++ c.hit_at.result ∷ []) c.rows.invariant
    ∙ ap (λ (h : Hit). map (λ (row : KeyRow). get_or hits row.place no_hit) (take at rows) ++ h ∷ []) one
    ∙ sym (map-append (λ (row : KeyRow). get_or hits row.place no_hit) (take at rows) (get_or rows at none ∷ []))
    ∙ ap (map (λ (row : KeyRow). get_or hits row.place no_hit)) (sym (take_more rows at none low))
