use Rattle.std.proofs.Common.{◌++◌, ◌∷◌, [], List, Option, ℕ, map, sym, ap, ◌∙◌, arith}
use Rattle.std.specs.List.{range_with_len}
use Rattle.std.proofs.lemmas.List.FromFn.{map-range_with_len_more}
use Rattle.join_ordinals.specs.Ordinals.{own_relation}
use Rattle.join_ordinals.proofs.rows.relation_row.Goals as goal

pub roots-preserved : goal.roots-preserved
roots-preserved c =
    c.in_ok-push.ensures.items
    ∙ ap (λ (row : List (Option ℕ)). row ++ (c.relation_of.result ∷ [])) c.roots.invariant
    ∙ ap (λ (r : Option ℕ). map (own_relation c.args.entry.now) (range_with_len 0 c.roots.root) ++ (r ∷ [])) c.relation_of.ensures
    ∙ sym (map-range_with_len_more (own_relation c.args.entry.now) 0 c.roots.root c.roots.root (omega arith))
