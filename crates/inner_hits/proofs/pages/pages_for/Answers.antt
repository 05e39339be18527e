use Rattle.std.proofs.Common.{◌++◌, List, map, ap, sym, ◌∙◌, arith}
use Rattle.query_ast.specs.Definition.{Definition, definitions_of}
use Rattle.query_ast.specs.Inner.{Inner}
use Rattle.query_ast.specs.Inner.View.{inner_of}
use Rattle.query_ast.specs.InnerHits.{inner_pages}
use Rattle.query_ast.specs.Pages.{pages_of}
use Rattle.query_ast.specs.Pages.View.{page_part}
use Rattle.query_ast.specs.declared.hit.InnerPage.{InnerPage}
use Rattle.reply_text.specs.Weight.{pages_weight}
use Rattle.view_objects.specs.Hits.{live_trees, object_at}
use Rattle.inner_hits.specs.Hits.{some_below}
use Rattle.inner_hits.specs.Steps.{joined_in}
use Rattle.inner_hits.proofs.Refusals.{same_refusal}
use Rattle.inner_hits.proofs.pages.pages_for.Goals as goal

pub returns-clause-pages : goal.returns-clause-pages
returns-clause-pages g c = λ trees asked.
    c.of.ensures ∙ c.in_ok-add_pages.ensures.pages trees (record { stands = asked.stands; kept = asked.kept; hit = asked.hit; holds = λ need. asked.holds (sym (ap (λ (ds : List (Definition Inner)). some_below (definitions_of ds)) c.as_slice.ensures) ∙ need) })
    ∙ ap (λ (l : List InnerPage). map page_part l ++ inner_pages c.args.mapping.now (live_trees trees) (definitions_of (map inner_of c.as_slice.result.now)) (object_at c.args.mapping.now trees c.args.place c.args.doc)) c.new-pages.ensures.items
    ∙ ap (λ (ds : List (Definition Inner)). inner_pages c.args.mapping.now (live_trees trees) (definitions_of ds) (object_at c.args.mapping.now trees c.args.place c.args.doc)) c.as_slice.ensures

pub returns-clause-steps : goal.returns-clause-steps
returns-clause-steps g c = λ trees asked.
    omega (
      arith,
      c.in_ok-add_pages.ensures.steps trees (record { stands = asked.stands; kept = asked.kept; hit = asked.hit; holds = λ need. asked.holds (sym (ap (λ (ds : List (Definition Inner)). some_below (definitions_of ds)) c.as_slice.ensures) ∙ need) }),
      ap (λ (ds : List (Definition Inner)). joined_in (pages_of (inner_pages c.args.mapping.now (live_trees trees) (definitions_of ds) (object_at c.args.mapping.now trees c.args.place c.args.doc)))) c.as_slice.ensures,
    )

pub returns-in_err-add_pages-clause-steps : goal.returns-in_err-add_pages-clause-steps
returns-in_err-add_pages-clause-steps g c = λ trees asked.
    omega (
      arith,
      c.in_err-add_pages.ensures.steps trees (record { stands = asked.stands; kept = asked.kept; hit = asked.hit; holds = λ need. asked.holds (sym (ap (λ (ds : List (Definition Inner)). some_below (definitions_of ds)) c.as_slice.ensures) ∙ need) }),
      ap (λ (ds : List (Definition Inner)). joined_in (pages_of (inner_pages c.args.mapping.now (live_trees trees) (definitions_of ds) (object_at c.args.mapping.now trees c.args.place c.args.doc)))) c.as_slice.ensures,
    )

pub returns-in_err-add_pages-clause-too_large : goal.returns-in_err-add_pages-clause-too_large
returns-in_err-add_pages-clause-too_large g c = λ large trees asked.
    omega (
      arith,
      c.in_err-add_pages.ensures.too_large (same_refusal c.from_residual.result c.from_residual.ensures.1 large) trees (record { stands = asked.stands; kept = asked.kept; hit = asked.hit; holds = λ need. asked.holds (sym (ap (λ (ds : List (Definition Inner)). some_below (definitions_of ds)) c.as_slice.ensures) ∙ need) }),
      ap (λ (ds : List (Definition Inner)). pages_weight (pages_of (inner_pages c.args.mapping.now (live_trees trees) (definitions_of ds) (object_at c.args.mapping.now trees c.args.place c.args.doc)))) c.as_slice.ensures,
    )
