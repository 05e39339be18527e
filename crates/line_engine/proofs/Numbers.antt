-- Numbers in decimal, as they are parsed.
use Rattle.std.proofs.Common.{◌≡◌, ℕ, sym, ap, ◌∙◌}
use Rattle.std.specs.Prelude.{Result, Ok, Err}

abbrev value_of : {E : Type 0} → Result ℕ E → ℕ
value_of {E} (Ok value) = value
value_of {E} (Err error) = 0

pub one_value : {E : Type 0} (result : Result ℕ E) (one other : ℕ) → result ≡ Ok one → result ≡ Ok other → one ≡ other
one_value {E} result one other is also = ap value_of (sym is ∙ also)
