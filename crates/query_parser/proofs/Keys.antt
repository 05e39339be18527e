-- The keys before the last one.
use Rattle.std.proofs.Common.{◌≡◌, ◌-◌, suc, List as Seq, [], ◌∷◌, length, take, refl, ap, arith}
use Rattle.tree_json.specs.Value.{elements_of}
use Rattle.tree_json.specs.View.{view, values}
use Rattle.tree_json.specs.declared.value.Json.{Json}
use Rattle.query_parser.specs.Search.{key_of, keys_in, keys_before}

pub keys_before-taken : (ks : Seq Json) → keys_in (elements_of (values (take (length ks - 1) ks))) ≡ keys_before (elements_of (values ks))
keys_before-taken [] = refl
keys_before-taken (k ∷ []) = refl
keys_before-taken (k ∷ j ∷ ks) =
    let less : length (k ∷ j ∷ ks) - 1 ≡ suc (length (j ∷ ks) - 1) = omega arith in
    rw less (ap (λ more. key_of (view k) ∷ more) (keys_before-taken (j ∷ ks)))

pub ruleset keys = (keys_before-taken)
