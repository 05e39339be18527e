-- Two values are the same where their compact texts are.
use Rattle.std.proofs.Common.{◌≡◌, ◌≢◌, ◌↔◌, ℕ, List, Bool, true, false, refl, sym, ap, ◌∙◌}
use Rattle.std.specs.Prelude.{IsTrue}
use Rattle.json_merge.specs.Same.{is_same}
use Rattle.tree_json.specs.Reading.{Reading, reading, bad_json, fraction, value}
use Rattle.tree_json.specs.Text.{compact}
use Rattle.tree_json.specs.Value.{JsonValue}
use Rattle.write_plan.specs.Update.{IsTextOf}

abbrev value_in : JsonValue → Reading → JsonValue
value_in other bad_json = other
value_in other fraction = other
value_in other (value v) = v

pub one_value : (bytes : List ℕ) (a b : JsonValue) → reading bytes ≡ value a → reading bytes ≡ value b → a ≡ b
one_value bytes a b first second = ap (value_in a) (sym first ∙ second)

pub same_text : (text : List ℕ) (whole live : JsonValue) → reading (compact whole) ≡ value whole → IsTextOf text live → compact whole ≡ text → whole ≡ live
same_text text now live again kept same = one_value text now live (ap reading (sym same) ∙ again) kept.reads

-- whether two values are the same is whether they are equal
abbrev SameIsEqual : Type 0
SameIsEqual = (a b : JsonValue) → IsTrue (is_same a b) ↔ (a ≡ b)

pub is_same_by : SameIsEqual → (a b : JsonValue) → a ≡ b → is_same a b ≡ true
is_same_by equal a b e = (equal a b).1 e

pub is_other_by : SameIsEqual → (text : List ℕ) (whole live : JsonValue) → IsTextOf text live → compact whole ≢ text → is_same whole live ≡ false
is_other_by equal text now live kept other =
    elim (is_same now live) as (λ b. is_same now live ≡ b → b ≡ false) [
      | true ↦ λ e. absurd (other (ap compact ((equal now live).0 e) ∙ sym kept.text))
      | false ↦ λ e. refl
    ] refl

pub ruleset updates = (same_text, is_same_by, is_other_by)
