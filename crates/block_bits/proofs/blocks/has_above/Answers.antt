use Rattle.std.proofs.Common.{length, refl, sym, arith, ap, ◌∙◌}
use Rattle.block_bits.proofs.Above.{falls}
use Rattle.block_bits.proofs.Scoped.{set_read, length-documents_of}
use Rattle.block_bits.proofs.Nested.{passed_found, passed_on}
use Rattle.block_bits.proofs.blocks.has_above.Goals as goal

pub next_set_before-requires : goal.next_set_before-requires
next_set_before-requires c =
    let fall = falls c.args.parents.now c.scopes.inner c.in-Some.outer c.requires.scopes.tree c.in-Some.is in
    let set = set_read _ _ _ c.in-Some.outer _ c.requires.scopes.bits_are (omega (arith, fall.0, fall.1)) c.index-sets-inner.is in
    omega (arith, c.requires.end, ap length set ∙ length-documents_of _ c.in-Some.outer)

pub returns-then-is_some : goal.returns-then-is_some
returns-then-is_some c =
    let fall = falls c.args.parents.now c.scopes.inner c.in-Some.outer c.requires.scopes.tree c.in-Some.is in
    let set = set_read _ _ _ c.in-Some.outer _ c.requires.scopes.bits_are (omega (arith, fall.0, fall.1)) c.index-sets-inner.is in
    let found = passed_found c.args.parents.now _ c.args.scope c.args.from c.args.end c.scopes.inner c.in-Some.outer _ _ c.requires.scopes.tree c.scopes.invariant c.in-Some.is
    record { set_is = set; asked = c.next_set_before.ensures.value } (sym c.is_some.ensures ∙ c.if-is_some.true)
    in (λ _. (found.0, found.1.low, found.1.high, found.1.above), λ _. refl)

pub scopes-preserved : goal.scopes-preserved
scopes-preserved c =
    let fall = falls c.args.parents.now c.scopes.inner c.in-Some.outer c.requires.scopes.tree c.in-Some.is in
    let set = set_read _ _ _ c.in-Some.outer _ c.requires.scopes.bits_are (omega (arith, fall.0, fall.1)) c.index-sets-inner.is in
    passed_on c.args.parents.now _ c.args.scope c.args.from c.args.end c.scopes.inner c.in-Some.outer _ _ c.requires.scopes.tree c.scopes.invariant c.in-Some.is
    record { set_is = set; asked = c.next_set_before.ensures.value } (sym c.is_some.ensures ∙ c.if-is_some.false) c.requires.end
