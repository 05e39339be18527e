-- Bytes written over a file that was made long enough with zeros.
use Rattle.std.proofs.Common.{◌≡◌, ℕ, suc, zero, ◌+◌, ◌-◌, ◌<◌, ◌≤◌, List, [], ◌∷◌, ◌++◌, length, take, drop, replicate, ap, append_assoc, arith}
use Rattle.std.proofs.lemmas.Grind.{common_steps}
use Rattle.std.proofs.lemmas.List.{take-replicate, drop-replicate, append-nil}
use Rattle.disk.specs.Memory.{written}

-- the front of a lengthened file: the file's, and zeros behind its end
front_of_lengthened : (at room : ℕ) (file : List ℕ) → at ≤ length file + room → take at (file ++ replicate room 0) ≡ take at file ++ replicate (at - length file) 0
front_of_lengthened zero room [] within = grind (arith, common_steps)
front_of_lengthened (suc at) room [] within =
    let same : suc at - length {A = ℕ} [] ≡ suc at = omega arith in
    rw same (take-replicate (suc at) room 0 (omega arith))
front_of_lengthened zero room (byte ∷ file) within = grind (arith, common_steps)
front_of_lengthened (suc at) room (byte ∷ file) within =
    let same : suc at - length (byte ∷ file) ≡ at - length file = omega arith in
    rw same (ap (λ bytes. byte ∷ bytes) (front_of_lengthened at room file (omega arith)))

-- the zeros end before this place: what stands behind it is the file's
back_of_lengthened : (from room : ℕ) (file : List ℕ) → room ≤ from - length file → drop from (file ++ replicate room 0) ≡ drop from file
back_of_lengthened from room [] within = grind (arith, common_steps, drop-replicate)
back_of_lengthened zero room (byte ∷ file) within = grind (arith, common_steps, append-nil)
back_of_lengthened (suc from) room (byte ∷ file) within = back_of_lengthened from room file (omega arith)

pub written_in_place : (at : ℕ) (bytes file grown new : List ℕ) → 0 < length bytes
    → grown ≡ file ++ replicate (at + length bytes - length file) 0
    → new ≡ take at grown ++ (bytes ++ drop (at + length bytes) grown)
    → new ≡ written at bytes file
written_in_place at [] file grown new some long over = absurd (omega arith)
written_in_place at (byte ∷ bytes) file grown new some long over =
    let room : ℕ = at + length (byte ∷ bytes) - length file in
    let front : take at (file ++ replicate room 0) ≡ take at file ++ replicate (at - length file) 0 = front_of_lengthened at room file (omega arith) in
    let back : drop (at + length (byte ∷ bytes)) (file ++ replicate room 0) ≡ drop (at + length (byte ∷ bytes)) file = back_of_lengthened (at + length (byte ∷ bytes)) room file (omega arith) in
    rw (over, long, front, back)
    (append_assoc (take at file) (replicate (at - length file) 0) ((byte ∷ bytes) ++ drop (at + length (byte ∷ bytes)) file))
