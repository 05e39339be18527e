use Rattle.std.proofs.Common.{◌≡◌, ◌<◌, ◌∙◌, List, ℕ, length, map, get_or, sym, subst, ap}
use Rattle.std.proofs.lemmas.List.{get_or-map}
use Rattle.mapping.specs.Mapping.{Mapping, mapping_of, home_of, included, no_field}
use Rattle.mapping.specs.Stored.{Parts, scope_seen, reaches_among}
use Rattle.mapping.proofs.LookUps.{reaches_seen}
use Rattle.mapping.proofs.mapping.Mapping.included.Goals as goal

pub returns : goal.returns
unfolding included
returns c =
    let here : c.args.field < length (mapping_of c.self.inside.bodies c.self.inside.dynamic).fields = subst (λ (m : Mapping). c.args.field < length m.fields) (sym c.self.view_is) c.requires.field in
    let home_is : home_of (mapping_of c.self.inside.bodies c.self.inside.dynamic) c.args.field ≡ c.index-home.result.now =
    sym (c.index-home.ensures ∙ ap (λ (hs : List ℕ). get_or hs c.args.field c.index-home.result.now) c.self.invariant.homes ∙ get_or-map (λ f. f.home) (mapping_of c.self.inside.bodies c.self.inside.dynamic).fields c.args.field no_field c.index-home.result.now here) in
    let told = c.reaches.ensures
    ∙ ap (λ (ps : List Parts). reaches_among ps c.index-home.result.now c.index-home.result.now c.args.scope) (ap (map scope_seen) c.as_slice.ensures.value ∙ c.self.invariant.scopes)
    ∙ reaches_seen (mapping_of c.self.inside.bodies c.self.inside.dynamic) c.index-home.result.now c.index-home.result.now c.args.scope in
    rw (← c.self.view_is, home_is) told
