use Rattle.std.proofs.Common.{[], map, refl}
use Rattle.hit_order.specs.Table.{directions_of, place_at}
use Rattle.query_ast.specs.Page.{direction_of}
use Rattle.nested_sort.specs.Listed.{IsDocOf, no_hit}
use Rattle.view_objects.specs.declared.hit.Hit.{Hit}
use Rattle.inner_hits.proofs.Showing.{among_all}
use Rattle.inner_hits.proofs.Paging.{chosen_among, chosen_is, page_is}
use Rattle.inner_hits.proofs.rows.chosen.Goals as goal

pub returns-clause-among : goal.returns-clause-among
returns-clause-among c =
    let hits = c.args.hits.now in
    let columns = c.in_ok-columns.columns.items in
    let places = c.in_ok-places.places.items in
    let picked = c.in_ok-picked.field-0.items in
    chosen_among hits columns places (directions_of columns) c.args.from c.args.size picked c.in_ok-places.ensures.long (λ k low. (c.in_ok-places.ensures.each k (place_at [] 0) low).index)
    (chosen_is hits columns places (directions_of columns) c.of.result c.in_ok-page.page.rows c.args.from c.args.size picked c.of.ensures refl c.in_ok-page.ensures.page c.in_ok-picked.ensures)

pub returns-clause-docs : goal.returns-clause-docs
returns-clause-docs c =
    let hits = c.args.hits.now in
    let columns = c.in_ok-columns.columns.items in
    let places = c.in_ok-places.places.items in
    let picked = c.in_ok-picked.field-0.items in
    among_all (λ (h : Hit). IsDocOf c.args.view.now h.place h.doc) hits picked
    (chosen_among hits columns places (directions_of columns) c.args.from c.args.size picked c.in_ok-places.ensures.long (λ k low. (c.in_ok-places.ensures.each k (place_at [] 0) low).index)
    (chosen_is hits columns places (directions_of columns) c.of.result c.in_ok-page.page.rows c.args.from c.args.size picked c.of.ensures refl c.in_ok-page.ensures.page c.in_ok-picked.ensures))
    c.requires.docs

pub returns-clause-page : goal.returns-clause-page
returns-clause-page c = λ trees stands are.
    let m = c.args.mapping.now in
    let hits = c.args.hits.now in
    let columns = c.in_ok-columns.columns.items in
    let places = c.in_ok-places.places.items in
    let picked = c.in_ok-picked.field-0.items in
    page_is m trees c.args.sorts.now hits columns places (c.in_ok-columns.ensures.keys trees stands are)
    (record {
      long = c.in_ok-places.ensures.long;
      index = λ k low. (c.in_ok-places.ensures.each k (place_at [] 0) low).index;
      number = λ k low. (c.in_ok-places.ensures.each k (place_at [] 0) low).number m c.args.scope trees stands (are k no_hit low);
    })
    c.args.from c.args.size picked
    (chosen_is hits columns places (map direction_of c.args.sorts.now) c.of.result c.in_ok-page.page.rows c.args.from c.args.size picked c.of.ensures c.in_ok-columns.ensures.directions c.in_ok-page.ensures.page c.in_ok-picked.ensures)
