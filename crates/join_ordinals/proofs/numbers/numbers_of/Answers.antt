use Rattle.std.proofs.Common.{ℕ, ◌<◌, List, ap, length, sym, subst, ◌∙◌}
use Rattle.join_ordinals.specs.Numbers.{AreGrouped, AreHeads, IsFirst}
use Rattle.join_ordinals.specs.declared.numbers.Met.{Met}
use Rattle.join_ordinals.proofs.Grouping.{grouped, heads, sorted_met}
use Rattle.join_ordinals.proofs.numbers.numbers_of.Goals as goal

pub firsts_of-requires : goal.firsts_of-requires
firsts_of-requires c =
    let sorted = c.sort_unstable.new.self.items in
    subst AreGrouped (sym c.as_slice.ensures.value)
    (grouped c.args.ids.now sorted (sorted_met c.args.ids.now c.in_ok-met.met.items sorted c.in_ok-met.ensures c.sort_unstable.ensures.permutation) c.sort_unstable.ensures.sorted)

pub numbered-requires : goal.numbered-requires
numbered-requires c =
    let sorted = c.sort_unstable.new.self.items in
    let firsts = c.in_ok-firsts.firsts.items in
    subst (AreHeads c.args.ids.now) (sym c.as_slice-2.ensures.value)
    (heads c.args.ids.now sorted firsts (sorted_met c.args.ids.now c.in_ok-met.met.items sorted c.in_ok-met.ensures c.sort_unstable.ensures.permutation) c.sort_unstable.ensures.sorted
    (c.in_ok-firsts.ensures.long ∙ ap length c.as_slice.ensures.value)
    (subst (λ (met : List Met). (at : ℕ) → at < length met → IsFirst met firsts at) c.as_slice.ensures.value c.in_ok-firsts.ensures.firsts))
