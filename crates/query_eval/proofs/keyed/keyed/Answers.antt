use Rattle.std.proofs.Common.{rules}
use Rattle.std.proofs.lemmas.List.Sorted.{All-permutation, Contains-permutation, IsNonDecreasingBy-from_sort_by_key}
use Rattle.query_eval.specs.Keyed.{IsKeyed, key_of}
use Rattle.query_eval.proofs.keyed.keyed.Goals as goal

pub returns : goal.returns
returns c = record {
  sorted = IsNonDecreasingBy-from_sort_by_key key_of _ c.in_ok-sort_by_key.ensures.sorted (λ a r q k. search rules);
  those = record {
    own = All-permutation (IsKeyed c.args.mapping.now c.args.joins.now c.args.side c.args.entries.now) _ _ c.in_ok-sort_by_key.ensures.permutation c.in_ok-roots.ensures.own;
    all = λ place doc key entry low at inside is. Contains-permutation _ _ _ c.in_ok-sort_by_key.ensures.permutation (c.in_ok-roots.ensures.all place doc key entry low at inside is);
  };
}
