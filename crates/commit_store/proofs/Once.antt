-- Bodies that are read back are determined by their texts.
use Rattle.std.proofs.Common.{◌≡◌, List, [], ◌∷◌, ℕ, length, map, drop, refl, sym, ◌∙◌, ap, arith}
use Rattle.std.specs.List.{AllByRecursion}
use Rattle.tree_json.specs.Reading.{Reading, bad_json, fraction, reading, value}
use Rattle.tree_json.specs.Text.{compact}
use Rattle.tree_json.specs.Value.{JsonValue}
use Rattle.commit_store.specs.Saying.{IsReadBack}

abbrev value_in : JsonValue → Reading → JsonValue
value_in none (value v) = v
value_in none bad_json = none
value_in none fraction = none

value_once : (one other : JsonValue) → value one ≡ value other → one ≡ other
value_once one other same = ap (value_in one) same

abbrev first_or : List ℕ → List (List ℕ) → List ℕ
first_or none [] = none
first_or none (it ∷ more) = it

pub same_bodies : (ones others : List JsonValue) → AllByRecursion IsReadBack ones → AllByRecursion IsReadBack others → map compact ones ≡ map compact others → ones ≡ others
same_bodies [] [] read reads same = refl
same_bodies [] (other ∷ others) read reads same = absurd (omega (arith, ap length same))
same_bodies (one ∷ ones) [] read reads same = absurd (omega (arith, ap length same))
same_bodies (one ∷ ones) (other ∷ others) read reads same =
    let first : compact one ≡ compact other = ap (first_or (compact one)) same in
    let body : one ≡ other = value_once one other (sym read.0 ∙ ap reading first ∙ reads.0) in
    let more : ones ≡ others = same_bodies ones others read.1 reads.1 (ap (drop 1) same) in
    ap (λ (it : JsonValue). it ∷ ones) body ∙ ap (λ (it : List JsonValue). other ∷ it) more
