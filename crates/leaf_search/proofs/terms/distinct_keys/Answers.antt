use Rattle.std.proofs.Common.{map, ap, ◌∙◌}
use Rattle.std.proofs.lemmas.List.{take_all}
use Rattle.leaf_search.specs.Kept.{bytes_of}
use Rattle.leaf_search.proofs.Once.{any_of_terms}
use Rattle.leaf_search.proofs.terms.distinct_keys.Goals as goal

pub returns : goal.returns
returns c =
    any_of_terms c.keys.lent.items c.distinct.result.items (map bytes_of c.args.keys.now) c.distinct.ensures
    (c.keys.invariant ∙ ap (map bytes_of) (take_all c.keys.key-index c.args.keys.now c.keys-test.false))
