use Rattle.std.proofs.Common.{ℕ, List, [], ◌∷◌, ◌++◌, map, take, ap, subst, sym, ◌∙◌}
use Rattle.std.proofs.lemmas.List.{map-append, map_more}
use Rattle.std.proofs.lemmas.List.Elements.{All-more}
use Rattle.leaf_search.specs.Keys.{FitsKey, key_of}
use Rattle.leaf_search.specs.Kept.{bytes_of}
use Rattle.leaf_search.proofs.terms.keys_of.Goals as goal

pub values-preserved : goal.values-preserved
values-preserved c = (
  ap (map bytes_of) c.in_ok-push.ensures.items
      ∙ map-append bytes_of c.values.keys.items (c.of.result ∷ [])
      ∙ ap (λ (ks : List (List ℕ)). ks ++ bytes_of c.of.result ∷ []) c.values.invariant.0
      ∙ ap (λ (k : List ℕ). map key_of (take c.values.value-index c.args.values.now) ++ k ∷ []) (c.of.ensures.key ∙ ap key_of c.value-item.is)
      ∙ sym (map_more key_of c.args.values.now c.values.value-index c.value-item.result c.values-test.true),
  All-more FitsKey c.args.values.now c.values.value-index c.value-item.result c.values-test.true c.values.invariant.1 (subst FitsKey c.value-item.is c.of.ensures.fits),
)
