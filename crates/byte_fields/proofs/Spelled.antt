-- The number that bytes give is spelled by them.
use Rattle.std.proofs.Common.{◌≡◌, ℕ, ◌+◌, ◌<◌, ◌≤◌, List, ◌++◌, length, take, drop, get_or, Fits, w8, w32, w64, sym, ap, ◌∙◌, arith, length-take, ⊎_elim}
use Rattle.std.proofs.lemmas.List.{take-append-drop, drop-drop, get_or-take, get_or-drop, get_or_past}
use Rattle.std.proofs.lemmas.Bool.{cases_lt}
use Rattle.std.proofs.lemmas.Nat.{le_bytes_4, le_bytes_8}
use Rattle.std.specs.Int.{from_le_bytes}
use Rattle.byte_fields.specs.Fields.{spelled_u32, spelled_u64}

-- the first k bytes from a place, and then what follows
parts_from : (from : List ℕ) (at k : ℕ) → drop at from ≡ take k (drop at from) ++ drop (at + k) from
parts_from from at k = sym (rw (sym (drop-drop k at from)) (take-append-drop k (drop at from)))

pub u32_from : (from bytes : List ℕ) (at n : ℕ) → length bytes ≡ 4 → ((i : ℕ) → get_or bytes i 0 < 256) → n ≡ from_le_bytes w32 bytes → bytes ≡ take 4 (drop at from) → drop at from ≡ spelled_u32 n ++ drop (at + 4) from
u32_from from bytes at n long small is here =
    parts_from from at 4 ∙ ap (λ front. front ++ drop (at + 4) from) (sym (le_bytes_4 bytes n long small is ∙ here))

pub u64_from : (from bytes : List ℕ) (at n : ℕ) → length bytes ≡ 8 → ((i : ℕ) → get_or bytes i 0 < 256) → n ≡ from_le_bytes w64 bytes → bytes ≡ take 8 (drop at from) → drop at from ≡ spelled_u64 n ++ drop (at + 8) from
u64_from from bytes at n long small is here =
    parts_from from at 8 ∙ ap (λ front. front ++ drop (at + 8) from) (sym (le_bytes_8 bytes n long small is ∙ here))

-- each number of a part of the bytes is a byte
pub small_part : (from part : List ℕ) (at k : ℕ) → ((i : ℕ) → Fits w8 (get_or from i 0)) → part ≡ take k (drop at from) → (i : ℕ) → get_or part i 0 < 256
small_part from part at k small here i =
    ⊎_elim
    (λ (below : i < k). rw here (rw (get_or-take k (drop at from) i 0 below, get_or-drop at from i 0) (small (at + i)).fits))
    (λ (past : k ≤ i). rw (get_or_past part i 0 (rw here (omega (arith, length-take k (drop at from))))) (omega arith))
    (cases_lt i k)
