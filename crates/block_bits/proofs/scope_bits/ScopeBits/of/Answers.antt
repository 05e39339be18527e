use Rattle.std.proofs.Common.{arith}
use Rattle.block_bits.specs.Seen.{IsNested}
use Rattle.block_bits.proofs.Scoped.{scopes_seen-is, seen_small}
use Rattle.block_bits.proofs.Nested.{scopes_are}
use Rattle.block_bits.proofs.scope_bits.ScopeBits.of.Goals as goal

-- the documents are numbered by u32, and have the scopes that the bits show
nested : (c : goal.After-count_documents-count) → IsNested c.args.parents.now c.args.bits.now
nested c =
    let some = c.requires.blocks in
    let numbered = seen_small c.args.bits.now (omega (arith, rw c.as_slice.ensures at c.count_documents-count.ensures, c.count_documents-count.type_inv)) in
    record {
      scopes = scopes_are _ _ some.0 c.requires.tree some.1 numbered;
      blocks = rw (scopes_seen-is _ _ some.0 some.1) some.2;
    }

pub invariant_of-result : goal.invariant_of-result
invariant_of-result c = nested c

pub returns-clause-bits : goal.returns-clause-bits
returns-clause-bits c = (nested c).scopes.bits_are

pub returns-clause-blocks : goal.returns-clause-blocks
returns-clause-blocks c = (nested c).blocks
