use Rattle.std.proofs.Common.{Bool, List, [], ◌∷◌, ◌++◌, map, sym, ap, ◌∙◌, arith}
use Rattle.std.specs.List.{range_with_len}
use Rattle.std.proofs.lemmas.List.FromFn.{map-range_with_len_more}
use Rattle.mapping.specs.Mapping.{included}
use Rattle.segment_fits.proofs.columns.shown_in.Goals as goal

pub scopes-preserved : goal.scopes-preserved
scopes-preserved c =
    let f = included c.args.ground.now.mapping.now c.args.field in
    let n = c.scopes.scope in (
      c.in_ok-push.ensures.items
          ∙ ap (λ (xs : List Bool). xs ++ c.included.result ∷ []) c.scopes.invariant.0
          ∙ ap (λ (b : Bool). map f (range_with_len 0 n) ++ b ∷ []) c.included.ensures
          ∙ sym (map-range_with_len_more f 0 n n (omega arith)),
      omega (arith, c.in_ok-push.ensures.len, c.scopes.invariant.1),
    )
