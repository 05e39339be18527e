use Rattle.std.proofs.Common.{◌≡◌, None, ◌+◌, ◌*◌, ◌-◌, ◌<◌, ◌^◌, min, length, drop, map, false, is_some}
use Rattle.std.specs.Option.{option_copied}
use Rattle.query_ast.specs.Pages.{pages_of, pages_size, hits_of, hits_size}
use Rattle.query_ast.specs.Pages.View.{page_part, hit_part}
use Rattle.reply_text.specs.HitParts.{page_entry}
use Rattle.reply_text.specs.HitTexts.{inner_hit_texts}
use Rattle.reply_text.specs.Next.{above, rise, ArePassed}
use Rattle.reply_text.specs.Object.{elements_text, entries_text, in_order}
use Rattle.reply_text.proofs.inner_hits.+pages_len.Given as goal

abbrev pub decreases-inner_len : goal.decreases-inner_len
decreases-inner_len l = 3 * pages_size (pages_of l.list.now) + 1

abbrev pub decreases-pages_len : goal.decreases-pages_len
decreases-pages_len l = 3 * pages_size (pages_of (map page_part l.pages.now))

abbrev pub decreases-page_len : goal.decreases-page_len
decreases-page_len l = 3 * hits_size (hits_of l.page.now.hits) + 1

abbrev pub decreases-inner_hits_len : goal.decreases-inner_hits_len
decreases-inner_hits_len l = 3 * hits_size (hits_of (map hit_part l.hits.now))

abbrev pub decreases-inner_hit_len : goal.decreases-inner_hit_len
decreases-inner_hit_len l = 3 * pages_size (pages_of l.hit.now.inner) + 2

abbrev pub decreases-pages_len-pages : goal.decreases-pages_len-pages
decreases-pages_len-pages l = length (above (option_copied l.last) (in_order (map page_entry l.pages)))

-- what is counted and what is left make the whole
abbrev pub invariant-pages_len-pages : goal.invariant-pages_len-pages
invariant-pages_len-pages l =
    (l.total < 2 ^ 64)
    × (min (l.total + length (entries_text (is_some l.last) (above (option_copied l.last) (in_order (map page_entry l.pages))))) (2 ^ 64 - 1)
    ≡ min (length (entries_text false (in_order (map page_entry l.pages)))) (2 ^ 64 - 1))
    × (l.rising ≡ rise None (map page_entry l.pages))
    × ArePassed (option_copied l.last) (map page_entry l.pages) l.at

abbrev pub invariant-inner_hits_len-hits : goal.invariant-inner_hits_len-hits
invariant-inner_hits_len-hits l =
    (l.total < 2 ^ 64)
    × (min (l.total + length (elements_text l.later (inner_hit_texts (hits_of (map hit_part (drop l.hit-index l.hits)))))) (2 ^ 64 - 1)
    ≡ min (length (elements_text false (inner_hit_texts (hits_of (map hit_part l.hits))))) (2 ^ 64 - 1))
