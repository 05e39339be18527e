use Rattle.std.proofs.Common.{List, [], map, get_or, Some, None, if◌then◌else◌, sym, ap, ◌∙◌}
use Rattle.query_ast.specs.Definition.{Definition, definitions_of}
use Rattle.query_ast.specs.Inner.{Inner}
use Rattle.query_ast.specs.InnerHits.{inner_pages, levels_of}
use Rattle.query_ast.specs.Pages.View.{page_part}
use Rattle.tree_json.specs.Text.{compact}
use Rattle.tree_json.specs.Value.{JsonValue}
use Rattle.tree_objects.specs.Object.{content}
use Rattle.view_objects.specs.Hits.{live_trees, object_at}
use Rattle.inner_hits.proofs.Showing.{hit_is}
use Rattle.inner_hits.proofs.pages.bare_hit.Goals as goal

pub returns-clause-hit : goal.returns-clause-hit
returns-clause-hit g c = λ m bits trees stands at_root.
    let ts = get_or trees c.args.hit.place [] in
    let o = object_at m trees c.args.hit.place c.args.hit.doc in
    hit_is m trees c.args.def.now c.args.hit c.in_ok-root_id.field-0 c.of.result c.in_ok-text.text c.of-2.result
    (c.in_ok-root_id.ensures m bits ts stands)
    (c.of.ensures ∙ c.new.ensures.items ∙ sym (ap (levels_of m) at_root))
    (c.in_ok-text.ensures.text m bits ts stands ∙ ap (λ (v : JsonValue). if c.args.def.now.source then Some (compact v) else None) (sym (ap content at_root)))
    (c.of-2.ensures ∙ ap (map page_part) c.new-2.ensures.items ∙ sym (ap (λ (ds : List (Definition Inner)). inner_pages m (live_trees trees) (definitions_of ds) o) c.requires.none))
