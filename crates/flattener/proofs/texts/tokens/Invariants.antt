use Rattle.std.proofs.Common.{◌≡◌, ◌+◌, ◌<◌, ◌^◌, ◌++◌, None, map, drop}
use Rattle.tree_json.specs.View.{view}
use Rattle.flattener.specs.Placing.{tokens_on, texts_among, end_of, room}
use Rattle.flattener.proofs.texts.tokens.Given as goal

abbrev pub invariant-items : goal.invariant-items
invariant-items l =
    (map (λ t. (t.0.items, t.1)) l.found.tokens.items ++ tokens_on l.found.end (texts_among (map (λ j. view j.now) (drop l.item-index l.items)))
    ≡ tokens_on None (texts_among (map (λ j. view j.now) l.items)))
    × (end_of l.found.end + room (texts_among (map (λ j. view j.now) (drop l.item-index l.items))) < 2 ^ 32)
