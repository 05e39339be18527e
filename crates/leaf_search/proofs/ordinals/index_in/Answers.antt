use Rattle.std.proofs.Common.{◌≡◌, ◌<◌, length, get_or}
use Rattle.std.proofs.lemmas.Result.{MatchResult-at_err}
use Rattle.leaf_search.proofs.Picking.{index_found}
use Rattle.leaf_search.proofs.ordinals.index_in.Goals as goal

pub returns-in-Err-clause-is : goal.returns-in-Err-clause-is
returns-in-Err-clause-is c =
    absurd
    (MatchResult-at_err (λ i. (i < length c.args.asked.now) × (get_or c.args.asked.now i 0 ≡ c.args.ordinal)) (λ i. ⊥) c.in-Err.field-0 c.in-Err.is
    (index_found c.args.asked.now c.args.ordinal c.binary_search.result c.requires.ascending c.requires.there c.binary_search.ensures.position))
