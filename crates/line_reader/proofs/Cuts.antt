-- Where bytes are cut at a newline, and the lines that this makes.
use Rattle.std.proofs.Common.{◌≡◌, ℕ, zero, suc, ◌+◌, ◌<◌, ◌≤◌, true, false, List, [], ◌∷◌, ◌++◌, length, take, drop, get_or, Option, Some, None, IfSome, IfNone, refl, sym, ap, arith}
use Rattle.std.proofs.lemmas.Grind.{common_steps}
use Rattle.std.proofs.lemmas.List.{take_all}
use Rattle.std.proofs.lemmas.Bool.{false_from_ne_true}
use Rattle.memchr.specs.Find.{IsFirstByte, is_byte}
use Rattle.line_reader.specs.Line.{newline, lines_of}
use Rattle.line_reader.specs.Reading.{has_newline, IsCutAt}

-- bytes without a newline, and then one
pub lines_at : (bytes after : List ℕ) → has_newline bytes ≡ false → lines_of (bytes ++ newline ∷ after) ≡ record { bytes = bytes; ended = true } ∷ lines_of after
lines_at [] after plain = refl
lines_at (b ∷ bs) after plain = grind (arith, common_steps, lines_at bs after)

-- bytes without a newline, and no more
pub lines_last : (bytes : List ℕ) → has_newline bytes ≡ false → 0 < length bytes → lines_of bytes ≡ record { bytes = bytes; ended = false } ∷ []
lines_last [] plain some = absurd (omega arith)
lines_last (b ∷ []) plain some = grind (arith, common_steps)
lines_last (b ∷ c ∷ bs) plain some = grind (arith, common_steps, lines_last (c ∷ bs))

-- no byte of a front is a newline, where none is by its place
plain_front : (bytes : List ℕ) (at : ℕ) → at ≤ length bytes → ((k : ℕ) → 0 ≤ k → k < at → ¬ (is_byte newline (get_or bytes k 0) ≡ true)) → has_newline (take at bytes) ≡ false
plain_front [] zero fits none = refl
plain_front [] (suc at) fits none = absurd (omega arith)
plain_front (b ∷ bs) zero fits none = refl
plain_front (b ∷ bs) (suc at) fits none =
    let rest : has_newline (take at bs) ≡ false = plain_front bs at (omega arith) (λ k low high. none (suc k) (omega arith) (omega arith)) in
    let first : is_byte newline b ≡ false = false_from_ne_true (is_byte newline b) (none 0 (omega arith) (omega arith)) in
    grind (arith, common_steps)

cut_at : (bytes : List ℕ) (at : ℕ) → at < length bytes → is_byte newline (get_or bytes at 0) ≡ true → bytes ≡ take at bytes ++ newline ∷ drop (at + 1) bytes
cut_at [] at within here = absurd (omega arith)
cut_at (b ∷ bs) zero within here = let e : b ≡ newline = grind (arith, common_steps) in ap (λ x. x ∷ bs) e
cut_at (b ∷ bs) (suc at) within here =
    let n : suc at + 1 ≡ suc (at + 1) = omega arith in rw n (ap (λ xs. b ∷ xs) (cut_at bs at (omega arith) here))

pub found_cut : (bytes : List ℕ) (r : Option ℕ) → IsFirstByte (is_byte newline) bytes r → IfSome r (λ at. IsCutAt at bytes)
found_cut bytes None first = tt
found_cut bytes (Some at) first = record {
  within = first.0.high;
  parts = cut_at bytes at first.0.high first.1;
  plain = plain_front bytes at (let h : at < length bytes = first.0.high in omega arith) first.0.before;
}

pub none_cut : (bytes : List ℕ) (r : Option ℕ) → IsFirstByte (is_byte newline) bytes r → IfNone r (has_newline bytes ≡ false)
none_cut bytes None first = rw (sym (take_all (length bytes) bytes (omega arith))) (plain_front bytes (length bytes) (omega arith) first)
none_cut bytes (Some at) first = tt
