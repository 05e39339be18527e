use Rattle.std.proofs.Common.{◌≡◌, ◌++◌, map, drop}
use Rattle.std.specs.List.{flat_map}
use Rattle.tree_json.specs.View.{view}
use Rattle.mapping_body.specs.Kept.{pair_of}
use Rattle.mapping_body.specs.Pairs.{pairs_of_said}
use Rattle.mapping_growth.proofs.candidate.pairs_of.Given as goal

abbrev pub invariant-outlines : goal.invariant-outlines
invariant-outlines l =
    map pair_of l.pairs.items ++ flat_map (λ o. pairs_of_said (view o.form.now)) (drop l.outline-index l.outlines)
    ≡ flat_map (λ o. pairs_of_said (view o.form.now)) l.outlines
