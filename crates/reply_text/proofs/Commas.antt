-- A piece behind a comma.
use Rattle.std.proofs.Common.{◌≡◌, ℕ, ◌+◌, ◌≤◌, List, ◌∷◌, ◌++◌, Bool, false, length, ap, ◌∙◌, append_assoc, arith}
use Rattle.std.proofs.lemmas.Grind.{common_steps}
use Rattle.tree_json.specs.Text.{comma_if}
use Rattle.reply_text.specs.Object.{Entry, entry_text, entries_text, braces}

pub behind_comma : (old mid new comma line text : List ℕ) → mid ≡ old ++ comma → new ≡ mid ++ line → line ≡ text → new ≡ old ++ (comma ++ text)
behind_comma old mid new comma line text before after same =
    after ∙ ap (λ (bytes : List ℕ). bytes ++ line) before ∙ append_assoc old comma line ∙ ap (λ (more : List ℕ). old ++ (comma ++ more)) same

-- three pieces, one after the other
pub three_pieces : (old a b c : List ℕ) → ((old ++ a) ++ b) ++ c ≡ old ++ (a ++ (b ++ c))
three_pieces old a b c = simp append_assoc

-- five pieces, one after the other
pub five_pieces : (old a b c d e : List ℕ) → ((((old ++ a) ++ b) ++ c) ++ d) ++ e ≡ old ++ (a ++ (b ++ (c ++ (d ++ e))))
five_pieces old a b c d e = simp append_assoc

-- six pieces, one after the other
pub six_pieces : (old a b c d e f : List ℕ) → (((((old ++ a) ++ b) ++ c) ++ d) ++ e) ++ f ≡ old ++ (a ++ (b ++ (c ++ (d ++ (e ++ f)))))
six_pieces old a b c d e f = simp append_assoc

-- there is room for the next entry of an object, where there is room for those that are left and the bracket
pub entry_fits : (later : Bool) (e : Entry) (left more all : List Entry) (old now : ℕ) → left ≡ e ∷ more → old + length (entries_text later left) ≤ 1 + (now + length (entries_text false all))
    → length (braces (entries_text false all)) ≤ old → length (comma_if later ++ entry_text e) ≤ now
entry_fits later e left more all old now is inv req = grind (arith, common_steps)
