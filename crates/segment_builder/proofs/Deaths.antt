-- A flag that is cleared is a block that is dead.
use Rattle.std.proofs.Common.{◌≡◌, ℕ, zero, suc, ◌-◌, ◌==◌, Bool, false, List, [], ◌∷◌, set, refl, ap, arith, eqb-true}
use Rattle.flattener.specs.Block.{BlockState}
use Rattle.flattener.specs.StandsFor.{Marked}
use Rattle.segment_builder.specs.Blocks.{marked_by, dead_at}
use Rattle.segment_builder.proofs.Keys.{split}

pub death : (root : ℕ) (blocks : List BlockState) (marks : List Bool) → marked_by blocks (set marks root false) ≡ dead_at root (marked_by blocks marks)
death root [] marks = refl
death root (block ∷ blocks) [] = refl
death zero (block ∷ blocks) (mark ∷ marks) = refl
death (suc root) (block ∷ blocks) (mark ∷ marks) =
    let e : suc root - 1 ≡ root = omega arith in
    let first : Marked BlockState = record { item = block; live = mark } in
    let later : (suc root == 0) ≡ false = split (suc root == 0) (λ is. absurd (omega (arith, eqb-true (suc root) 0 is))) (λ isnt. isnt) in
    rw (later, e) (ap (λ rest. first ∷ rest) (death root blocks marks))
