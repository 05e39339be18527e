use Rattle.std.proofs.Common.{ℕ, ◌<◌, ◌≤◌, List, ◌++◌, length, map, codes, is_some, Some, arith, refl, sym, ap, ◌∙◌}
use Rattle.std.proofs.lemmas.Grind.{common_steps}
use Rattle.std.specs.Option.{option_copied}
use Rattle.tree_json.specs.Text.{comma_if}
use Rattle.query_ast.specs.Pages.View.{hit_part}
use Rattle.reply_text.specs.HitParts.{page_entry, page_line, inner_hit_line}
use Rattle.reply_text.specs.HitTexts.{page_entries, inner_hit_text}
use Rattle.reply_text.specs.Next.{above}
use Rattle.reply_text.specs.Object.{entry_text, object_text, in_order}
use Rattle.reply_text.proofs.Commas.{behind_comma, entry_fits}
use Rattle.reply_text.proofs.HitLines.{contained_page, hit_size_at, page_line-entry, inner_part-some, inner_hit_line-text}
use Rattle.reply_text.proofs.inner_hits.+put_pages.Goals as goal

pub put_inner-returns-clause-bytes : goal.put_inner-returns-clause-bytes
put_inner-returns-clause-bytes t c =
    let pages = c.as_slice-pages.result.now in
    let text = object_text (map page_entry pages) in
    let some : 0 < length pages = grind (arith, common_steps) in
    behind_comma c.args.into.now.bytes c.push_spare.new.self.bytes c.put_pages.new.into.bytes (codes ",\"inner_hits\":") text text
    c.push_spare.ensures.bytes c.put_pages.ensures.bytes refl
    ∙ ap (λ (more : List ℕ). c.args.into.now.bytes ++ more) (sym (inner_part-some pages c.args.list.now c.as_slice-pages.ensures some))

pub put_pages-put_page-requires : goal.put_pages-put_page-requires
unfolding object_text
put_pages-put_page-requires t c =
    let page = c.in-Some.named.0.now in
    let entries = in_order (map page_entry c.args.pages.now) in
    let fits : length (comma_if (is_some c.pages.last) ++ entry_text (page_entry page)) ≤ c.pages.into.spare =
    entry_fits (is_some c.pages.last) (page_entry page) (above (option_copied c.pages.last) entries) (above (Some page.name) entries) entries c.args.into.now.spare c.pages.into.spare
    c.in-Some.ensures.next c.pages.invariant.1 c.requires in
    (omega (arith, contained_page c.args.pages.now page c.in-Some.ensures.within), grind (arith, fits))

pub put_page-returns-clause-bytes : goal.put_page-returns-clause-bytes
put_page-returns-clause-bytes t c =
    let page = c.args.page.now in
    behind_comma c.args.into.now.bytes c.put_comma.new.into.bytes c.put_page_line.new.into.bytes (comma_if c.args.later) (page_line page) (entry_text (page_entry page))
    c.put_comma.ensures.bytes c.put_page_line.ensures.bytes (page_line-entry page)

pub put_inner_hits-put_inner_hit-requires : goal.put_inner_hits-put_inner_hit-requires
put_inner_hits-put_inner_hit-requires t c = (grind (arith, common_steps, hit_size_at), grind (arith, common_steps))

pub put_inner_hit-returns-clause-bytes : goal.put_inner_hit-returns-clause-bytes
put_inner_hit-returns-clause-bytes t c =
    let part = hit_part c.args.hit.now in
    let pages = page_entries part.inner in
    behind_comma c.args.into.now.bytes c.put_comma.new.into.bytes c.put_inner_hit_line.new.into.bytes (comma_if c.args.later) (inner_hit_line part.head pages) (inner_hit_text part.head pages)
    c.put_comma.ensures.bytes c.put_inner_hit_line.ensures.bytes (inner_hit_line-text part.head pages)
