use Rattle.std.proofs.Common.{◌≡◌, ◌+◌, ◌++◌, ℤ, true, false, List, [], ◌∷◌, Option, length, map, min, take, drop, refl, ap, ◌∙◌, arith}
use Rattle.bucket_aggs.proofs.Formed.{cut_others}
use Rattle.hit_order.specs.Table.{KeyTable, table_of}
use Rattle.hit_order.specs.declared.column.Column.{Column}
use Rattle.hit_order.specs.declared.column.ColumnKeys.TheVariants.{Numbers}
use Rattle.hit_order.specs.declared.column.RowPlace.{RowPlace}
use Rattle.search_page.specs.Hits.{places_of, plain_row}
use Rattle.search_page.proofs.Front.{cut_both, table_plain}
use Rattle.search_page.proofs.first.first_rows.Goals as goal

pub returns : goal.returns
returns c =
    let all : List RowPlace = places_of 0 c.args.matched.now in
    let places : List RowPlace = c.in_ok-places.places.items in
    let page : List RowPlace = c.split_at.result.1.now in
    let given : List RowPlace = c.in_ok-from_slice.field-0.items in
    let keys : List (Option ℤ) = c.in_ok-keys.keys in
    let whole : places ≡ take (c.args.from + c.args.size) all = c.in_ok-places.ensures ∙ ap (λ found. take (c.args.from + c.args.size) (places_of 0 found)) c.as_slice.ensures in
    let end : c.min.result ≡ min (length places) c.args.from = omega (arith, c.min.ensures, c.len.ensures) in
    let page_is : page ≡ take c.args.size (drop c.args.from all) =
    c.split_at.ensures.back
    ∙ ap (drop c.min.result) c.as_slice-2.ensures.value
    ∙ cut_others places c.args.from c.min.result end
    ∙ ap (drop c.args.from) whole
    ∙ cut_both c.args.from c.args.size all in
    let column : Column = record { direction = record { descending = true; null_first = false }; keys = Numbers keys } in
    let columns : c.push.new.self.items ≡ column ∷ [] = c.in_ok-push.ensures.items ∙ ap (λ (l : List Column). l ++ column ∷ []) c.new-columns.ensures.items in
    let same : given ≡ page = c.in_ok-from_slice.ensures.items in
    ap (λ (t : KeyTable). t.rows) (c.of.ensures ∙ ap (λ (cs : List Column). table_of cs given) columns ∙ ap (table_of (column ∷ [])) same)
    ∙ table_plain c.args.score column keys page refl c.in_ok-keys.ensures
    ∙ ap (map (plain_row c.args.score)) page_is
