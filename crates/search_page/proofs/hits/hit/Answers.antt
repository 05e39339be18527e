use Rattle.std.proofs.Common.{◌≡◌, ◌<◌, List, Some, slice_get, option_map, ap, sym, ◌∙◌, arith}
use Rattle.query_ast.specs.Pages.{PagePart, pages_of}
use Rattle.reply_text.specs.Weight.{hit_weight, pages_weight}
use Rattle.segment_parts.specs.declared.columns.Columns.{Columns}
use Rattle.search_page.proofs.Refusals.{was_too_large}
use Rattle.search_page.proofs.Shown.{row_weighs}
use Rattle.search_page.proofs.hits.hit.Goals as goal

pub returns-in_err-shown-clause-too_large : goal.returns-in_err-shown-clause-too_large
returns-in_err-shown-clause-too_large g c = λ large trees searched hit.
    let entry = c.in-Some.entry.now in
    let there : slice_get c.args.view.now c.args.row.place ≡ Some entry = sym (sym (ap (option_map (λ entry. entry.now)) c.in-Some.is) ∙ c.entry.ensures) in
    let low : c.args.row.doc < entry.columns.documents = omega (arith, c.if-doc-docs.false, c.docs.ensures.documents, ap (λ (x : Columns). x.documents) c.segment-segment.ensures) in
    let less = c.in_err-shown.ensures.too_large (was_too_large c.in_err-shown.field-0.0 c.from_residual.result c.from_residual.ensures.1 large) trees searched.stands searched.read hit in
    omega (arith, less, row_weighs c.args.mapping.now trees c.args.view.now c.args.found.now c.args.search.now c.args.row entry there low)

pub returns-in_err-take_hit-clause-too_large : goal.returns-in_err-take_hit-clause-too_large
returns-in_err-take_hit-clause-too_large g c = λ large trees searched hit.
    let entry = c.in-Some.entry.now in
    let there : slice_get c.args.view.now c.args.row.place ≡ Some entry = sym (sym (ap (option_map (λ entry. entry.now)) c.in-Some.is) ∙ c.entry.ensures) in
    let low : c.args.row.doc < entry.columns.documents = omega (arith, c.if-doc-docs.false, c.docs.ensures.documents, ap (λ (x : Columns). x.documents) c.segment-segment.ensures) in
    let own = c.in_ok-shown.ensures.shown trees searched.stands searched.read hit in
    omega (
      arith,
      c.in_ok-shown.ensures.room,
      c.in_err-take_hit.ensures.too_large,
      ap hit_weight own.0,
      ap (λ (pages : List PagePart). pages_weight (pages_of pages)) own.1,
      row_weighs c.args.mapping.now trees c.args.view.now c.args.found.now c.args.search.now c.args.row entry there low,
    )
