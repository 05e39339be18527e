-- Objects with no member, with one and with more.
use Rattle.std.proofs.Common.{◌≡◌, ◌≢◌, ℕ, List as Seq, [], ◌∷◌, ◌++◌, length, Some, None, refl, arith}
use Rattle.tree_json.specs.Value.{members_of}
use Rattle.tree_json.specs.View.{view, entries}
use Rattle.tree_json.specs.declared.value.Json.{Json}
use Rattle.request_form.specs.Form.{single_of}

pub single_popped : (xs ys : Seq (Seq ℕ × Json)) (last : Seq ℕ × Json) → xs ≡ ys ++ last ∷ [] → length ys ≡ 0 → single_of (members_of (entries xs)) ≡ Some (last.0, view last.1)
single_popped xs [] last e none = rw e refl
single_popped xs (y ∷ ys) last e none = absurd (omega arith)

pub single_none : (xs : Seq (Seq ℕ × Json)) → length xs ≢ 1 → single_of (members_of (entries xs)) ≡ None
single_none [] other = refl
single_none (x ∷ []) other = absurd (other refl)
single_none (x ∷ y ∷ ys) other = refl
