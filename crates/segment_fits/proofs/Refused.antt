-- Bits that are refused are not those of blocks.
use Rattle.std.proofs.Common.{◌≡◌, ℕ, Bool, List, length, Option, refl, sym, subst}
use Rattle.block_bits.specs.Blocks.{AreBits, HaveOneScope, IsBlocks}
use Rattle.block_bits.specs.Seen.{scopes_seen}
use Rattle.block_bits.specs.declared.scope_bits.BitsRefusal.{BitsRefusal}
use Rattle.block_bits.specs.declared.scope_bits.BitsRefusal.TheVariants.{NotOneScope, NotBlocks}
use Rattle.block_bits.proofs.Scoped.{scopes_seen-is}

-- the bits of a segment's scopes
pub bits_are : (count : ℕ) (bits : List (List Bool)) → HaveOneScope count bits → AreBits (length bits) bits (scopes_seen bits)
bits_are count bits one = subst (AreBits (length bits) bits) (sym (scopes_seen-is (length bits) bits one.0 one.1)) one.1

pub no_blocks : (parents : List (Option ℕ)) (bits : List (List Bool)) (why : BitsRefusal) → (why ≡ NotOneScope → ¬ ((scopes : List ℕ) × AreBits (length parents) bits scopes))
    → (why ≡ NotBlocks → (scopes : List ℕ) × AreBits (length parents) bits scopes × (¬ IsBlocks parents scopes)) → AreBits (length parents) bits (scopes_seen bits) → IsBlocks parents (scopes_seen bits) → ⊥
no_blocks parents bits NotOneScope one two are blocks = one refl (scopes_seen bits, are)
no_blocks parents bits NotBlocks one two are blocks =
    let it = two refl in
    it.2 (subst (IsBlocks parents) (scopes_seen-is (length parents) bits it.0 it.1) blocks)
