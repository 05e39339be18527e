use Rattle.std.proofs.Common.{◌≡◌, ◌&&◌, None, true, ap, arith, map, sym, ◌∙◌}
use Rattle.std.specs.Option.{option_copied, option_map}
use Rattle.reply_text.specs.HitParts.{page_entry}
use Rattle.reply_text.specs.Next.{closest, is_above}
use Rattle.reply_text.proofs.Next.{both, drop_map, first_next, next_from, none_left, skip}
use Rattle.reply_text.proofs.inner_hits.page_from.Goals as goal

pub pages-init : goal.pages-init
pages-init c =
    let last = option_copied c.args.last in
    let pages = c.args.pages.now in (
      ap (closest last None) (drop_map page_entry pages c.args.at) ∙ skip last None (map page_entry pages) c.args.at c.requires.passed,
      tt,
    )

pub returns-then-is_first-clause-next : goal.returns-then-is_first-clause-next
returns-then-is_first-clause-next c =
    let last = option_copied c.args.last in
    let pages = c.args.pages.now in
    let page = c.index-pages-index.result in
    let first : (c.args.rising && is_above last c.as_slice.result.now) ≡ true = sym c.is_first.ensures ∙ c.if-is_first.true in
    let yes = both c.args.rising (is_above last c.as_slice.result.now) first in
    next_from last (map page_entry pages) (option_map (λ named. page_entry named.0.now) c.closer-found.result)
    (c.closer-found.ensures.closer
    ∙ first_next page_entry pages c.pages.index page page last (option_map (λ named. page_entry named.0.now) c.pages.found) (closest last None (map page_entry pages))
    (sym c.requires.rising ∙ yes.0) (omega (arith, c.pages-test.true)) c.index-pages-index.is (ap (is_above last) (sym c.as_slice.ensures) ∙ yes.1) c.pages.invariant.0)

-- none is left to put it against
pub returns-clause-next : goal.returns-clause-next
returns-clause-next c =
    let last = option_copied c.args.last in
    let pages = c.args.pages.now in
    next_from last (map page_entry pages) (option_map (λ named. page_entry named.0.now) c.pages.found)
    (none_left page_entry pages c.pages.index last (option_map (λ named. page_entry named.0.now) c.pages.found) (closest last None (map page_entry pages)) (omega (arith, c.pages-test.false)) c.pages.invariant.0)
