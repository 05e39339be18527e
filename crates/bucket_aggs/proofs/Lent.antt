-- Sets that are lent, as scores.
use Rattle.std.proofs.Common.{◌≡◌, ℕ, ◌<◌, Bool, true, false, List, [], ◌∷◌, length, map, get_or, Some, is_some, refl, sym, ap, ◌∙◌}
use Rattle.std.proofs.lemmas.List.{get_or-map}
use Rattle.block_join.specs.Scores.{filled}
use Rattle.leaf_search.specs.Lent.{set_of}
use Rattle.leaf_search.specs.declared.document_set.DocumentSet.{DocumentSet}
use Rattle.query_eval.specs.Lent.{lent_scores}

marks_lent : (flags : List Bool) → map is_some (filled (Some 1) flags) ≡ flags
marks_lent [] = refl
marks_lent (true ∷ flags) = ap (λ (l : List Bool). true ∷ l) (marks_lent flags)
marks_lent (false ∷ flags) = ap (λ (l : List Bool). false ∷ l) (marks_lent flags)

-- the documents of a set are those that have a score
pub lent_at : (sets : List DocumentSet) (at : ℕ) (other : DocumentSet) → at < length sets → set_of (get_or sets at other) ≡ map is_some (get_or (map lent_scores sets) at [])
lent_at sets at other low =
    sym (marks_lent (set_of (get_or sets at other)))
    ∙ ap (map is_some) (sym (get_or-map lent_scores sets at other [] low))
