use Rattle.std.proofs.Common.{◌-◌, ◌<◌, Contains, inl, inr, sym, subst, ◌∙◌, arith}
use Rattle.std.specs.List.{All}
use Rattle.std.proofs.lemmas.List.{get_or_default, take_all}
use Rattle.std.proofs.lemmas.List.Elements.{All-more, All-weaker}
use Rattle.segment_builder.proofs.scopes.scope_count.Goals as goal

pub count_with-count-requires : goal.count_with-count-requires
count_with-count-requires c = c.requires c.scopes.scope-index 0 c.scopes-test.true

pub scopes-preserved : goal.scopes-preserved
scopes-preserved c = (
  All-more (λ scope. scope < c.count_with-count.result) c.args.scopes.now c.scopes.scope-index 0 c.scopes-test.true
      (All-weaker (λ scope. scope < c.scopes.count) (λ scope. scope < c.count_with-count.result) (λ scope h. omega (arith, h, c.count_with-count.ensures.more)) _ c.scopes.invariant.0)
      c.count_with-count.ensures.within,
  (λ some. elim c.count_with-count.ensures.which [
    | inl same ↦ subst (λ n. Contains c.args.scopes.now (n - 1)) (sym same) (c.scopes.invariant.1 (omega (arith, some, same)))
    | inr next ↦ (
      c.scopes.scope-index,
      c.scopes-test.true,
      get_or_default c.args.scopes.now c.scopes.scope-index (c.count_with-count.result - 1) 0 c.scopes-test.true ∙ omega (arith, next),
    )
  ]),
  omega arith,
)

pub returns-clause-within : goal.returns-clause-within
returns-clause-within c = subst (All (λ scope. scope < c.scopes.count)) (take_all c.scopes.scope-index c.args.scopes.now (omega arith)) c.scopes.invariant.0

pub returns-clause-greatest : goal.returns-clause-greatest
returns-clause-greatest c = λ some.
    let all : All (λ scope. scope < c.scopes.count) c.args.scopes.now = subst (All (λ scope. scope < c.scopes.count)) (take_all c.scopes.scope-index c.args.scopes.now (omega arith)) c.scopes.invariant.0 in
    c.scopes.invariant.1 (omega (arith, all 0 0 some))
