use Rattle.std.proofs.Common.{◌≡◌, ◌∙◌, rules}
use Rattle.std.proofs.lemmas.Fn.{always_returns_same}
use Rattle.mapping_body.proofs.Ranks.{compared, place_by}
use Rattle.mapping_body.proofs.names.place_of.Goals as goal

pub returns-clause-place : goal.returns-clause-place
returns-clause-place g c =
    let at = c.binary_search_by.ensures.position (λ y. compared (g.T.Named.name y) (g.S.Sought.sought c.args.sought.now)) (always_returns_same _ _ _ (λ a r q k. search rules)) in
    c.ok.ensures.value ∙ place_by g.T.Named.name (g.S.Sought.sought c.args.sought.now) c.args.items.now c.binary_search_by.result c.requires c.binary_search_by.ensures.bound at
