use Rattle.std.proofs.Common.{◌≡◌, None, map, drop, Contains, IfSome}
use Rattle.std.specs.Option.{option_copied, option_map}
use Rattle.reply_text.specs.HitParts.{page_entry}
use Rattle.reply_text.specs.Next.{closest}
use Rattle.reply_text.proofs.inner_hits.page_from.Given as goal

-- what was found, put against the pages that are left, is what there is; it is one of the pages
abbrev pub invariant-pages : goal.invariant-pages
invariant-pages l =
    (closest (option_copied l.last) (option_map (λ named. page_entry named.0.now) l.found) (map page_entry (drop l.index l.pages))
    ≡ closest (option_copied l.last) None (map page_entry l.pages))
    × IfSome l.found (λ named. Contains l.pages named.0.now)
