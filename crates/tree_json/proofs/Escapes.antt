-- What stands in a quoted text for a byte, in each of the three cases, and for a run of bytes.
use Rattle.std.proofs.Common.{get_or, add-one, append_assoc, drop-cons, ◌≡◌, ℕ, ◌+◌, ◌<◌, ◌≤◌, ◌/◌, ◌%◌, List, [], ◌∷◌, ◌++◌, length, take, drop, cond, nat_lt, ap, ◌∙◌, arith}
use Rattle.std.proofs.lemmas.Bool.Decides.{nat_tests}
use Rattle.std.proofs.Math.Seq.{take-suc}
use Rattle.std.specs.Char.{digit_char}
use Rattle.json.specs.Print.{escape_letter, escape_byte, escape}

-- the choice, of any letter
by_letter : (l x : ℕ) (a b c : List ℕ) → 0 < l → cond (nat_lt 0 l) a (cond (nat_lt x 32) b c) ≡ a
by_letter l x a b c h = grind (arith, nat_tests)

by_control : (l x : ℕ) (a b c : List ℕ) → l ≤ 0 → x < 32 → cond (nat_lt 0 l) a (cond (nat_lt x 32) b c) ≡ b
by_control l x a b c h k = grind (arith, nat_tests)

by_neither : (l x : ℕ) (a b c : List ℕ) → l ≤ 0 → 32 ≤ x → cond (nat_lt 0 l) a (cond (nat_lt x 32) b c) ≡ c
by_neither l x a b c h k = grind (arith, nat_tests)

pub escape_byte-short : (x l : ℕ) → l ≡ escape_letter x → 0 < l → escape_byte x ≡ 92 ∷ l ∷ []
unfolding escape_byte
escape_byte-short x l e h = rw e (by_letter (escape_letter x) x _ _ _ (rw e at h))

pub escape_byte-control : (x l : ℕ) → l ≡ escape_letter x → l ≤ 0 → x < 32 → escape_byte x ≡ 92 ∷ 117 ∷ 48 ∷ 48 ∷ digit_char (x / 16) ∷ digit_char (x % 16) ∷ []
unfolding escape_byte
escape_byte-control x l e h k = by_control (escape_letter x) x _ _ _ (rw e at h) k

pub escape_byte-plain : (x l : ℕ) → l ≡ escape_letter x → l ≤ 0 → 32 ≤ x → escape_byte x ≡ x ∷ []
unfolding escape_byte
escape_byte-plain x l e h k = by_neither (escape_letter x) x _ _ _ (rw e at h) k

pub ruleset cases = (escape_byte-short, escape_byte-control, escape_byte-plain)

-- a byte more that stands for itself
pub plain_more : (s : List ℕ) (i : ℕ) → i < length s → escape_byte (get_or s i 0) ≡ get_or s i 0 ∷ [] → escape s ≡ take i s ++ escape (drop i s) → escape s ≡ take (i + 1) s ++ escape (drop (i + 1) s)
plain_more s i h e g =
    let front : take (i + 1) s ≡ take i s ++ (get_or s i 0 ∷ []) = rw add-one (take-suc s i 0 h) in
    let back : drop i s ≡ get_or s i 0 ∷ drop (i + 1) s = rw add-one (drop-cons s i 0 h) in
    let rest : escape (drop i s) ≡ escape_byte (get_or s i 0) ++ escape (drop (i + 1) s) = ap escape back in
    rw (front, append_assoc) (g ∙ ap (λ r. take i s ++ r) (rest ∙ ap (λ b. b ++ escape (drop (i + 1) s)) e))
