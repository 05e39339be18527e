use Rattle.std.proofs.Common.{◌≡◌, ◌++◌, ◌∷◌, [], length, true, false, rules, arith, sym, ap, subst, ◌∙◌}
use Rattle.std.specs.Prelude.{◌-◌, slice_get, take}
use Rattle.std.specs.List.{AllByRecursion}
use Rattle.std.specs.List.Sorted.{IsPermutation}
use Rattle.std.proofs.lemmas.Fn.{always_returns_same}
use Rattle.hit_order.specs.Reach.{key_before}
use Rattle.hit_order.specs.Table.{number_or_null}
use Rattle.hit_order.proofs.Meeting.{cut_all, cut_fewer, front_kept, last_of, least_last, number_order}
use Rattle.hit_order.proofs.first_keys.cut.Goals.{After-clear-2}
use Rattle.hit_order.proofs.first_keys.cut.Goals as goal

-- what is left is what the selection put in front
kept : (c : After-clear-2) → c.swap.new.x.items ≡ c.select_nth_unstable_by-front.result.0.now ++ c.select_nth_unstable_by-front.result.1.now ∷ []
kept c =
    let front = c.select_nth_unstable_by-front.result.0.now in
    let last = c.select_nth_unstable_by-front.result.1.now in
    let extended = rw c.unwrap.ensures at c.extend_from_slice.ensures.items in
    let pushed = rw c.unwrap-2.ensures at c.push.ensures.items in
    ap (λ v. v.items) c.swap.ensures.x_after ∙ (pushed ∙ ap (λ keys. keys ++ last ∷ []) (extended ∙ ap (λ keys. keys ++ front) c.requires.empty))

-- and is a part of all keys in another order
first : (c : After-clear-2) → c.swap.new.x.items ≡ take c.args.most (c.select_nth_unstable_by-front.result.0.now ++ c.select_nth_unstable_by-front.result.1.now ∷ c.select_nth_unstable_by-front.result.2.now)
first c =
    let parts = c.select_nth_unstable_by-front.result in
    front_kept c.args.most parts.0.now parts.2.now c.swap.new.x.items parts.1.now (omega (arith, c.select_nth_unstable_by-front.ensures.front_len, c.in-Some.ensures)) (kept c)

moved : (c : After-clear-2) → IsPermutation c.args.keys.now.items (c.select_nth_unstable_by-front.result.0.now ++ c.select_nth_unstable_by-front.result.1.now ∷ c.select_nth_unstable_by-front.result.2.now)
moved c = rw c.deref_mut.ensures.value at c.select_nth_unstable_by-front.ensures.permutation

pub returns-clause-counted : goal.returns-clause-counted
returns-clause-counted c = cut_fewer c.args.most c.args.keys.now.items _ c.swap.new.x.items (moved c) (first c)

pub returns-clause-all : goal.returns-clause-all
returns-clause-all c = λ test all. cut_all (λ key. test (number_or_null key) ≡ true) c.args.most c.args.keys.now.items _ c.swap.new.x.items (moved c) (first c) all

pub returns-clause-last : goal.returns-clause-last
returns-clause-last c =
    let parts = c.select_nth_unstable_by-front.result in
    last_of parts.0.now parts.1.now ∙ ap (λ keys. slice_get keys (length keys - 1)) (sym (kept c))

pub returns-clause-least : goal.returns-clause-least
returns-clause-least c =
    let d = c.args.direction in
    let o = number_order d c.rows_stand_in_order.ensures.order in
    let parts = c.select_nth_unstable_by-front.result in
    subst (AllByRecursion (λ key. key_before d (number_or_null parts.1.now) (number_or_null key) ≡ false)) (sym (kept c))
    (least_last d o parts.0.now parts.1.now
    (c.select_nth_unstable_by-front.ensures.partitioned (λ one other. key_before d (number_or_null one) (number_or_null other)) o (always_returns_same _ _ _ (λ a r q k. search rules))).0)
