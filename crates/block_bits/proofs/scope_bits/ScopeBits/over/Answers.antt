use Rattle.std.proofs.Common.{refl, sym, ◌∙◌}
use Rattle.std.proofs.lemmas.Bool.{false≢true}
use Rattle.block_bits.specs.Seen.{IsNested, scopes_seen}
use Rattle.block_bits.proofs.Nested.{scopes_are, blocks_seen}
use Rattle.block_bits.proofs.scope_bits.ScopeBits.over.Goals as goal

pub returns-then-not-give_one_scope-clause-not_one_scope : goal.returns-then-not-give_one_scope-clause-not_one_scope
returns-then-not-give_one_scope-clause-not_one_scope c =
    (λ _ some. false≢true (sym c.if-not-give_one_scope.true ∙ c.give_one_scope.ensures.scopes.1 (rw (c.as_slice-scopes.ensures, c.as_slice-sets.ensures) some)), λ _. refl)

pub are_blocks-requires : goal.are_blocks-requires
are_blocks-requires c =
    let some = c.give_one_scope.ensures.scopes.0 c.if-not-give_one_scope.false in
    scopes_are _ _ some.0 (rw c.as_slice-scopes.ensures c.requires) some.1 (c.give_one_scope.ensures.numbered c.if-not-give_one_scope.false)

pub returns-then-not-are_blocks-clause-not_blocks : goal.returns-then-not-are_blocks-clause-not_blocks
returns-then-not-are_blocks-clause-not_blocks c =
    let some = c.give_one_scope.ensures.scopes.0 c.if-not-give_one_scope.false in
    let are = scopes_are _ _ some.0 (rw c.as_slice-scopes.ensures c.requires) some.1 (c.give_one_scope.ensures.numbered c.if-not-give_one_scope.false) in (
      λ _. (
        scopes_seen c.args.bits.now,
        rw (c.as_slice-scopes.ensures, c.as_slice-sets.ensures) at are.bits_are,
        λ blocks. false≢true (sym c.if-not-are_blocks.true ∙ c.are_blocks.ensures.1 (rw (c.as_slice-scopes.ensures, c.as_slice-sets.ensures) blocks)),
      ),
      λ _. refl,
    )

-- each document has one scope, and the documents are blocks
nested : (c : goal.Else-not-are_blocks) → IsNested c.args.parents.now c.args.bits.now
nested c =
    let some = c.give_one_scope.ensures.scopes.0 c.if-not-give_one_scope.false in
    let are = scopes_are _ _ some.0 (rw c.as_slice-scopes.ensures c.requires) some.1 (c.give_one_scope.ensures.numbered c.if-not-give_one_scope.false) in
    rw (← c.as_slice-scopes.ensures, ← c.as_slice-sets.ensures) record { scopes = are; blocks = c.are_blocks.ensures.0 c.if-not-are_blocks.false }

pub invariant_of-result : goal.invariant_of-result
invariant_of-result c = nested c

pub returns-clause-bits : goal.returns-clause-bits
returns-clause-bits c = (nested c).scopes.bits_are

pub returns-clause-not_blocks : goal.returns-clause-not_blocks
returns-clause-not_blocks c = (λ never. absurd (cc), λ refused. absurd (refused.2 (blocks_seen _ _ refused.0 refused.1 (nested c).blocks)))
