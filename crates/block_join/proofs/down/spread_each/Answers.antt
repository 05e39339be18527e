use Rattle.std.proofs.Common.{◌≡◌, ℕ, [], ◌∷◌, ◌+◌, List, Option, Some, None, sym, ap, ◌∙◌, arith}
use Rattle.block_join.specs.Kept.{next_parent}
use Rattle.block_join.specs.Scores.{Standing, between, padded}
use Rattle.block_join.proofs.Sets.{parent_is_in, spreading_sets_hit, spreading_sets_none, spreading_sets_end}
use Rattle.block_join.proofs.down.spread_each.Goals as goal

pub parents-preserved-in-Continue-branch-2 : goal.parents-preserved-in-Continue-branch-2
parents-preserved-in-Continue-branch-2 c =
    let next : next_parent c.args.parents.now c.parents.left.from c.args.parent.now ≡ Some c.in-Some.at =
    ap (λ (scores : List (Option ℕ)). next_parent c.args.parents.now c.parents.left.from scores) (sym c.parents.invariant.0) ∙ sym c.hitting_parent.ensures.value ∙ c.in-Some.is in
    let skipped : c.skip.new.self.scores ≡ c.args.parent.now = ap (λ (it : Standing). it.scores) c.skip.ensures ∙ c.parents.invariant.0 in
    let at_parent : c.skip.new.self.from ≡ c.in-Some.at = ap (λ (it : Standing). it.from) c.skip.ensures in
    let read : between c.args.parent.now c.in-Some.at (c.in-Some.at + 1) ≡ c.in-Some-next_before.score ∷ between c.next_before.new.self.scores c.next_before.new.self.from (c.in-Some.at + 1) =
    ap (λ (scores : List (Option ℕ)). between scores c.in-Some.at (c.in-Some.at + 1)) (sym skipped)
    ∙ ap (λ n. between c.skip.new.self.scores n (c.in-Some.at + 1)) (sym at_parent) ∙ c.in-Some-next_before.ensures.score in
    let from : c.next_before.new.self.from ≡ c.in-Some.at + 1 = omega (arith, at_parent, c.in-Some-next_before.ensures.later.0, c.in-Some-next_before.ensures.later.1) in (
      c.in-Some-next_before.ensures.scores ∙ skipped,
      c.give.ensures.len ∙ c.parents.invariant.1,
      rw from
          (spreading_sets_hit c.args.parents.now c.args.children.now c.args.parent.now c.parents.hits.done c.give.new.hits.done c.parents.left.from c.in-Some.at c.start_of-start.result
          c.in-Some-next_before.score (between c.next_before.new.self.scores c.next_before.new.self.from (c.in-Some.at + 1)) c.parents.invariant.2 c.requires.documents next c.start_of-start.ensures
          (parent_is_in c.args.parents.now c.parents.left.from c.args.parent.now c.in-Some.at next) read c.in_ok-give.ensures.done c.in_ok-give.ensures.up_to),
    )

pub parents-preserved : goal.parents-preserved
parents-preserved c =
    let next : next_parent c.args.parents.now c.parents.left.from c.args.parent.now ≡ Some c.in-Some.at =
    ap (λ (scores : List (Option ℕ)). next_parent c.args.parents.now c.parents.left.from scores) (sym c.parents.invariant.0) ∙ sym c.hitting_parent.ensures.value ∙ c.in-Some.is in
    let skipped : c.skip.new.self.scores ≡ c.args.parent.now = ap (λ (it : Standing). it.scores) c.skip.ensures ∙ c.parents.invariant.0 in
    let at_parent : c.skip.new.self.from ≡ c.in-Some.at = ap (λ (it : Standing). it.from) c.skip.ensures in
    let read : between c.args.parent.now c.in-Some.at (c.in-Some.at + 1) ≡ [] =
    ap (λ (scores : List (Option ℕ)). between scores c.in-Some.at (c.in-Some.at + 1)) (sym skipped)
    ∙ ap (λ n. between c.skip.new.self.scores n (c.in-Some.at + 1)) (sym at_parent) ∙ c.in_default-next_before.ensures.none.0 in
    let from : c.next_before.new.self.from ≡ c.in-Some.at + 1 = c.in_default-next_before.ensures.none.1 in (
      c.in_default-next_before.ensures.scores ∙ skipped,
      c.parents.invariant.1,
      rw from
          (spreading_sets_none c.args.parents.now c.args.children.now c.args.parent.now c.parents.hits.done c.parents.left.from c.in-Some.at c.start_of-start.result
          c.parents.invariant.2 c.requires.documents next c.start_of-start.ensures (parent_is_in c.args.parents.now c.parents.left.from c.args.parent.now c.in-Some.at next)
          c.in-Some.ensures.within.0 read),
    )

pub returns-clause-scores : goal.returns-clause-scores
returns-clause-scores c = λ scopes from to apart is own.
    let none : next_parent c.args.parents.now c.parents.left.from c.args.parent.now ≡ None =
    ap (λ (scores : List (Option ℕ)). next_parent c.args.parents.now c.parents.left.from scores) (sym c.parents.invariant.0) ∙ sym c.hitting_parent.ensures.value ∙ c.in_default.is in
    c.finish.ensures.scores
    ∙ ap (λ n. padded n c.parents.hits.done) (c.parents.invariant.1 ∙ c.len-len.ensures ∙ sym c.requires.documents)
    ∙ spreading_sets_end c.args.parents.now c.args.children.now c.args.parent.now c.parents.hits.done c.parents.left.from c.parents.invariant.2 c.requires.documents none scopes from to apart is own
