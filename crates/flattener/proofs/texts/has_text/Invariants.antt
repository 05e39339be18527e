use Rattle.std.proofs.Common.{◌≡◌, nat_lt, length, map, drop}
use Rattle.tree_json.specs.View.{view}
use Rattle.flattener.specs.Placing.{texts_among}
use Rattle.flattener.proofs.texts.has_text.Given as goal

abbrev pub invariant-items : goal.invariant-items
invariant-items l =
    nat_lt 0 (length (texts_among (map (λ j. view j.now) (drop l.item-index l.items))))
    ≡ nat_lt 0 (length (texts_among (map (λ j. view j.now) l.items)))
