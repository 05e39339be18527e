use Rattle.std.proofs.Common.{◌≡◌, ◌+◌, ◌<◌, ◌≤◌, [], ◌∷◌, ◌++◌, length, take, Some, subst, arith}
use Rattle.block_join.specs.Kept.{shown, score_of}
use Rattle.block_join.specs.Scores.{Begun, padded}
use Rattle.block_join.proofs.Built.{on_err, view_of, count_within, begun_same, begun_more, begun_other, pushed_done, view_end, view_len}
use Rattle.block_join.proofs.builder.Builder.push.Goals as goal

pub invariant_of-self : goal.invariant_of-self
invariant_of-self c = begun_other c.self.inside.set c.self.inside.scores c.add.new.self c.self.inside.end c.self.inside.count c.self.invariant c.in_err-add.ensures.same_long c.in_err-add.ensures.same

pub overflow_add-self : goal.overflow_add-self
overflow_add-self c =
    let later : c.self.inside.end ≤ c.args.doc = omega (arith, c.requires.later, view_end c.self.inside.set c.self.inside.scores c.self.inside.end c.self.inside.count c.args.self.now c.self.invariant c.self.view_is) in
    let within : c.args.doc < length c.self.inside.set = omega (arith, c.requires.within, view_len c.self.inside.set c.self.inside.scores c.self.inside.end c.self.inside.count c.args.self.now c.self.invariant c.self.view_is) in
    omega (arith, c.self.invariant.small, within, count_within c.self.inside.set c.self.inside.scores c.self.inside.end c.self.inside.count c.args.doc c.self.invariant later within)

pub overflow_add-self-2 : goal.overflow_add-self-2
overflow_add-self-2 c = omega (arith, c.self.invariant.small, c.requires.within, view_len c.self.inside.set c.self.inside.scores c.self.inside.end c.self.inside.count c.args.self.now c.self.invariant c.self.view_is)

pub invariant_of-self-2 : goal.invariant_of-self-2
invariant_of-self-2 c =
    let later : c.self.inside.end ≤ c.args.doc = omega (arith, c.requires.later, view_end c.self.inside.set c.self.inside.scores c.self.inside.end c.self.inside.count c.args.self.now c.self.invariant c.self.view_is) in
    let within : c.args.doc < length c.self.inside.set = omega (arith, c.requires.within, view_len c.self.inside.set c.self.inside.scores c.self.inside.end c.self.inside.count c.args.self.now c.self.invariant c.self.view_is) in
    rw c.set.ensures
    (begun_more c.self.inside.set c.self.inside.scores c.add.new.self c.self.inside.end c.self.inside.count c.args.doc c.args.score c.self.invariant later within c.requires.capped
    c.in_ok-add.ensures.long c.in_ok-add.ensures.own c.in_ok-add.ensures.others)

pub returns-clause-done : goal.returns-clause-done
returns-clause-done c =
    let later : c.self.inside.end ≤ c.args.doc = omega (arith, c.requires.later, view_end c.self.inside.set c.self.inside.scores c.self.inside.end c.self.inside.count c.args.self.now c.self.invariant c.self.view_is) in
    let within : c.args.doc < length c.self.inside.set = omega (arith, c.requires.within, view_len c.self.inside.set c.self.inside.scores c.self.inside.end c.self.inside.count c.args.self.now c.self.invariant c.self.view_is) in
    subst (λ (v : Begun). take (c.args.doc + 1) (shown (score_of c.add.new.self) 0 c.set.new.self) ≡ padded c.args.doc v.done ++ (Some c.args.score ∷ [])) c.self.view_is
    (rw c.set.ensures
    (pushed_done c.self.inside.set c.self.inside.scores c.add.new.self c.self.inside.end c.self.inside.count c.args.doc c.args.score c.self.invariant later within c.requires.capped
    c.in_ok-add.ensures.long c.in_ok-add.ensures.own c.in_ok-add.ensures.others))

pub returns-in_err-add-clause-same : goal.returns-in_err-add-clause-same
returns-in_err-add-clause-same c =
    on_err c.from_residual.result (view_of c.self.inside.set c.add.new.self c.self.inside.end ≡ c.args.self.now)
    (begun_same c.self.inside.set c.self.inside.scores c.self.inside.end c.self.inside.count c.args.self.now c.self.invariant c.self.view_is c.add.new.self c.in_err-add.ensures.same)
