use Rattle.std.proofs.Common.{ℕ, List, [], ◌∷◌, ◌++◌, Option, map, sym, ap, ◌∙◌, arith}
use Rattle.std.specs.List.{range_with_len}
use Rattle.std.proofs.lemmas.List.FromFn.{map-range_with_len_more}
use Rattle.mapping.specs.Mapping.{around_of}
use Rattle.segment_fits.proofs.standing.parents_among.Goals as goal

pub scopes-preserved : goal.scopes-preserved
scopes-preserved c =
    let f = around_of c.args.mapping.now in
    let n = c.scopes.scope in
    c.in_ok-push.ensures.items
    ∙ ap (λ (xs : List (Option ℕ)). xs ++ c.around.result ∷ []) c.scopes.invariant
    ∙ ap (λ (o : Option ℕ). map f (range_with_len 0 n) ++ o ∷ []) c.around.ensures
    ∙ sym (map-range_with_len_more f 0 n n (omega arith))
