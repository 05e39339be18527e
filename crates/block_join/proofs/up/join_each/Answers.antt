use Rattle.std.proofs.Common.{◌≡◌, ℕ, ◌+◌, List, Option, Some, None, sym, ap, ◌∙◌}
use Rattle.score_math.specs.Scores.{mode_of}
use Rattle.block_join.specs.Kept.{next_parent}
use Rattle.block_join.specs.Scores.{Standing, between, padded}
use Rattle.block_join.proofs.Sets.{joining_sets_more, joining_sets_end}
use Rattle.block_join.proofs.up.join_each.Goals as goal

pub parents-preserved : goal.parents-preserved
parents-preserved c =
    let next : next_parent c.args.parents.now c.parents.left.from c.args.child.now ≡ Some c.in-Some.parent =
    ap (λ (scores : List (Option ℕ)). next_parent c.args.parents.now c.parents.left.from scores) (sym c.parents.invariant.0) ∙ sym c.hitting_parent.ensures.value ∙ c.in-Some.is in
    let score : c.mode_before-score.result ≡ mode_of c.args.mode (between c.args.child.now c.parents.left.from c.in-Some.parent) =
    c.mode_before-score.ensures.value ∙ ap (λ (scores : List (Option ℕ)). mode_of c.args.mode (between scores c.parents.left.from c.in-Some.parent)) c.parents.invariant.0 in
    let from : c.skip.new.self.from ≡ c.in-Some.parent + 1 = ap (λ (it : Standing). it.from) c.skip.ensures in (
      ap (λ (it : Standing). it.scores) c.skip.ensures ∙ ap (λ (it : Standing). it.scores) c.mode_before-score.ensures.place ∙ c.parents.invariant.0,
      c.put.ensures.len ∙ c.parents.invariant.1,
      rw from
          (joining_sets_more c.args.mode c.args.parents.now c.args.child.now c.parents.hits.done c.put.new.self.done c.parents.left.from c.in-Some.parent c.mode_before-score.result
          c.parents.invariant.2 c.requires next score c.in_ok-put.ensures.done c.in_ok-put.ensures.up_to),
    )

pub returns-clause-scores : goal.returns-clause-scores
returns-clause-scores c = λ scopes to is.
    let none : next_parent c.args.parents.now c.parents.left.from c.args.child.now ≡ None =
    ap (λ (scores : List (Option ℕ)). next_parent c.args.parents.now c.parents.left.from scores) (sym c.parents.invariant.0) ∙ sym c.hitting_parent.ensures.value ∙ c.in_default.is in
    c.finish.ensures.scores
    ∙ ap (λ n. padded n c.parents.hits.done) (c.parents.invariant.1 ∙ c.len-len.ensures ∙ sym c.requires)
    ∙ joining_sets_end c.args.mode c.args.parents.now c.args.child.now c.parents.hits.done c.parents.left.from c.parents.invariant.2 c.requires none scopes to is
