use Rattle.std.proofs.Common.{◌≡◌, Bool, List, ℕ, [], length, map, get_or, slice_set, true, ap, ◌∙◌}
use Rattle.std.proofs.lemmas.List.{get_or_default}
use Rattle.query_eval.proofs.Leading.{lengths_put, set_low}
use Rattle.query_eval.proofs.keyed.put_root.Goals as goal

pub returns-clause-long : goal.returns-clause-long
returns-clause-long c =
    let sets : List (List Bool) = c.args.sets.now.items in
    let place : ℕ = c.args.root.now.place in
    let doc : ℕ = c.args.root.now.doc in
    let old : List Bool = c.index_mut-set.result.now in
    let own : old ≡ get_or sets place [] = c.index_mut-set.ensures.value ∙ get_or_default sets place old [] (set_low sets place doc c.requires) in
    ap (λ (l : List Bool). map length (slice_set sets place l)) (c.set.ensures ∙ ap (λ (l : List Bool). slice_set l doc true) own) ∙ lengths_put sets place doc
