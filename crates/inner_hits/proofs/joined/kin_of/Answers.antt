use Rattle.std.proofs.Common.{rules, filter, ap, ◌∙◌}
use Rattle.std.proofs.lemmas.List.Sorted.{All-permutation, IsNonDecreasingBy-from_sort_by_key, answers_always}
use Rattle.inner_hits.specs.Kinship.{IsCappedKin, has_key, key_of}
use Rattle.inner_hits.proofs.Sorted.{stays}
use Rattle.inner_hits.proofs.joined.kin_of.Goals as goal

pub returns : goal.returns
returns c = record {
  sorted = IsNonDecreasingBy-from_sort_by_key key_of _ c.in_ok-sort_by_key.ensures.sorted (λ a r q k. search rules);
  capped = All-permutation IsCappedKin _ _ c.in_ok-sort_by_key.ensures.permutation c.in_ok-kin.ensures.capped;
  those = λ key.
      stays c.in_ok-kin.kin.items c.sort_by_key.new.self.items (c.in_ok-sort_by_key.ensures.stable key_of (answers_always _ _ _ (λ f a r g h. search rules))) key
      ∙ ap (filter (has_key key)) c.in_ok-kin.ensures.kin;
}
