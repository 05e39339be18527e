use Rattle.std.proofs.Common.{ℕ, List, ◌++◌, ◌-◌, codes, length, take, drop, append_assoc, ap, sym, ◌∙◌}
use Rattle.reply_text.specs.HitParts.{place_text}
use Rattle.reply_text.proofs.HitLines.{place_part-level}
use Rattle.reply_text.proofs.inner_hits.put_levels.Goals as goal

-- the name, and then the place from the first level in
pub returns-in-len1-up-clause-bytes : goal.returns-in-len1-up-clause-bytes
returns-in-len1-up-clause-bytes c =
    let place = place_text c.level-item.result (take (length c.args.levels.now - 1) (drop 1 c.args.levels.now)) in
    c.put_place.ensures.bytes
    ∙ ap (λ (bytes : List ℕ). bytes ++ place) c.push_spare.ensures.bytes
    ∙ append_assoc c.args.into.now.bytes (codes ",\"_nested\":") place
    ∙ ap (λ (text : List ℕ). c.args.into.now.bytes ++ text) (sym (place_part-level c.args.levels.now c.level-item.result c.in-len1-up.len_at_least c.level-item.is))
