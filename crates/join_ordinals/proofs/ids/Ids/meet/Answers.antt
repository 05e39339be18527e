use Rattle.std.proofs.Common.{ℕ, List, [], ◌∷◌, ◌++◌, map, Bor, ap, ◌∙◌}
use Rattle.std.proofs.lemmas.List.{map-append}
use Rattle.join_ordinals.proofs.Numbering.{keep_more}
use Rattle.join_ordinals.proofs.ids.Ids.meet.Goals as goal

pub returns-clause-keep : goal.returns-clause-keep
returns-clause-keep c =
    keep_more c.args.self.now (map (λ (id : Bor (List ℕ)). id.now) c.push.new.self.items) c.args.id.now
    (ap (map (λ (id : Bor (List ℕ)). id.now)) c.in_ok-push.ensures.items
    ∙ map-append (λ (id : Bor (List ℕ)). id.now) c.self.inside.met.items (c.args.id ∷ [])
    ∙ ap (λ (ids : List (List ℕ)). ids ++ c.args.id.now ∷ []) c.self.view_is)
