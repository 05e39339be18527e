use Rattle.std.proofs.Common.{◌≡◌, None, ◌+◌, ◌*◌, ◌≤◌, ◌++◌, length, drop, map, codes, false, is_some}
use Rattle.std.specs.Option.{option_copied}
use Rattle.query_ast.specs.Pages.{pages_of, pages_size, hits_of, hits_size}
use Rattle.query_ast.specs.Pages.View.{page_part, hit_part}
use Rattle.reply_text.specs.HitParts.{page_entry}
use Rattle.reply_text.specs.HitTexts.{inner_hit_texts}
use Rattle.reply_text.specs.Next.{above, rise, ArePassed}
use Rattle.reply_text.specs.Object.{elements_text, entries_text, in_order}
use Rattle.reply_text.proofs.inner_hits.+put_pages.Given as goal

abbrev pub decreases-put_inner : goal.decreases-put_inner
decreases-put_inner l = 4 * pages_size (pages_of l.list.now) + 1

abbrev pub decreases-put_pages : goal.decreases-put_pages
decreases-put_pages l = 4 * pages_size (pages_of (map page_part l.pages.now))

abbrev pub decreases-put_page : goal.decreases-put_page
decreases-put_page l = 4 * hits_size (hits_of l.page.now.hits) + 2

abbrev pub decreases-put_page_line : goal.decreases-put_page_line
decreases-put_page_line l = 4 * hits_size (hits_of l.page.now.hits) + 1

abbrev pub decreases-put_inner_hits : goal.decreases-put_inner_hits
decreases-put_inner_hits l = 4 * hits_size (hits_of (map hit_part l.hits.now))

abbrev pub decreases-put_inner_hit : goal.decreases-put_inner_hit
decreases-put_inner_hit l = 4 * pages_size (pages_of l.hit.now.inner) + 3

abbrev pub decreases-put_inner_hit_line : goal.decreases-put_inner_hit_line
decreases-put_inner_hit_line l = 4 * pages_size (pages_of l.hit.now.inner) + 2

abbrev pub decreases-put_pages-pages : goal.decreases-put_pages-pages
decreases-put_pages-pages l = length (above (option_copied l.last) (in_order (map page_entry l.pages)))

-- what is written and the pages above the last name make the whole, and there is room for these and the bracket
abbrev pub invariant-put_pages-pages : goal.invariant-put_pages-pages
invariant-put_pages-pages l =
    (l.into.bytes ++ entries_text (is_some l.last) (above (option_copied l.last) (in_order (map page_entry l.pages)))
    ≡ (l.fn.into.bytes ++ codes "{") ++ entries_text false (in_order (map page_entry l.pages)))
    × (l.fn.into.spare + length (entries_text (is_some l.last) (above (option_copied l.last) (in_order (map page_entry l.pages))))
    ≤ 1 + (l.into.spare + length (entries_text false (in_order (map page_entry l.pages)))))
    × (l.rising ≡ rise None (map page_entry l.pages))
    × ArePassed (option_copied l.last) (map page_entry l.pages) l.at

-- what is written and what is left make the whole, and there is room for what is left
abbrev pub invariant-put_inner_hits-hits : goal.invariant-put_inner_hits-hits
invariant-put_inner_hits-hits l =
    (l.into.bytes ++ elements_text l.later (inner_hit_texts (hits_of (map hit_part (drop l.hit-index l.hits))))
    ≡ l.fn.into.bytes ++ elements_text false (inner_hit_texts (hits_of (map hit_part l.hits))))
    × (l.fn.into.spare + length (elements_text l.later (inner_hit_texts (hits_of (map hit_part (drop l.hit-index l.hits)))))
    ≤ l.into.spare + length (elements_text false (inner_hit_texts (hits_of (map hit_part l.hits)))))
