use Rattle.std.proofs.Common.{refl}
use Rattle.std.proofs.lemmas.Bool.{false≢true}
use Rattle.block_bits.proofs.Nested.{found_in_set, none_in_set, enclosed_all, enclosed_more}
use Rattle.block_bits.proofs.blocks.is_enclosed.Goals as goal

pub returns : goal.returns
returns c =
    let none = none_in_set _ _ _ c.args.scope c.parents.from _ c.requires.scopes.bits_are c.requires.within c.index-sets-scope.is c.in_default-next_set.ensures.value in
    (λ _. enclosed_all _ _ c.args.scope c.in-Some.outer c.parents.from c.in-Some.is c.parents.invariant none, λ _. refl)

pub enclosing_at-requires-clause-doc : goal.enclosing_at-requires-clause-doc
enclosing_at-requires-clause-doc c =
    let first = found_in_set _ _ _ c.args.scope c.parents.from c.in-Some-next_set.doc _ c.requires.scopes.bits_are c.requires.within c.index-sets-scope.is c.in-Some-next_set.ensures.value in
    first.high

pub parents-preserved : goal.parents-preserved
parents-preserved c =
    let first = found_in_set _ _ _ c.args.scope c.parents.from c.in-Some-next_set.doc _ c.requires.scopes.bits_are c.requires.within c.index-sets-scope.is c.in-Some-next_set.ensures.value in
    enclosed_more _ _ c.args.scope c.in-Some.outer c.parents.from c.in-Some-next_set.doc c.in-Some-enclosing_at.at c.requires.scopes.tree c.in-Some.is c.parents.invariant first c.in-Some-enclosing_at.ensures.at

pub returns-in-None : goal.returns-in-None
returns-in-None c =
    let first = found_in_set _ _ _ c.args.scope c.parents.from c.in-Some-next_set.doc _ c.requires.scopes.bits_are c.requires.within c.index-sets-scope.is c.in-Some-next_set.ensures.value in
    (λ never. absurd (false≢true never), λ enclosed. absurd (c.in-None.ensures.none (enclosed.enclosed c.in-Some-next_set.doc c.in-Some.outer first.high first.here c.in-Some.is)))
