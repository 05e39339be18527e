-- Texts in a row, taken one by one, and lines one behind the other.
use Rattle.std.proofs.Common.{◌≡◌, ℕ, ◌+◌, ◌++◌, List, Bool, true, refl, sym, add-one, ◌∙◌, ap, append_assoc}
use Rattle.std.proofs.lemmas.Grind.{flat_map-append}
use Rattle.std.specs.Prelude.{codes}
use Rattle.tree_json.specs.Text.{comma_if}
use Rattle.made_load.specs.Draws.{Drawn}
use Rattle.made_load.specs.Sources.{several}
use Rattle.made_load.specs.Lines.{lines_text}

-- what a row is whose first text was taken
pub taken_text : (one : ℕ → Drawn) (later : Bool) (count rest state : ℕ) → count ≡ rest + 1
    → (several one later count state).text ≡ comma_if later ++ ((one state).text ++ (several one true rest (one state).after).text)
taken_text one later count rest state e = rw (e, add-one rest) refl

pub taken_after : (one : ℕ → Drawn) (later : Bool) (count rest state : ℕ) → count ≡ rest + 1
    → (several one later count state).after ≡ (several one true rest (one state).after).after
taken_after one later count rest state e = rw (e, add-one rest) refl

pub lines_joined : (ones others : List (List ℕ)) → lines_text (ones ++ others) ≡ lines_text ones ++ lines_text others
lines_joined ones others = flat_map-append (λ line. line ++ codes "\n") ones others

joined : (ones twos threes fours : List ℕ) → ((ones ++ twos) ++ threes) ++ fours ≡ ones ++ (twos ++ (threes ++ fours))
joined ones twos threes fours = append_assoc (ones ++ twos) threes fours ∙ append_assoc ones twos (threes ++ fours)

-- behind a comma and the first text of a row, what is written and what is left still make the whole
pub row_more : (one : ℕ → Drawn) (later : Bool) (count rest state state' : ℕ) (bytes bytes' bytes'' whole : List ℕ)
    → count ≡ rest + 1 → bytes' ≡ bytes ++ comma_if later → bytes'' ≡ bytes' ++ (one state).text → state' ≡ (one state).after
    → bytes ++ (several one later count state).text ≡ whole → bytes'' ++ (several one true rest state').text ≡ whole
row_more one later count rest state state' bytes bytes' bytes'' whole e comma text after so_far =
    ap (λ (it : List ℕ). it ++ (several one true rest state').text) (text ∙ ap (λ (it : List ℕ). it ++ (one state).text) comma)
    ∙ (ap (λ (it : ℕ). ((bytes ++ comma_if later) ++ (one state).text) ++ (several one true rest it).text) after
    ∙ (joined bytes (comma_if later) (one state).text (several one true rest (one state).after).text
    ∙ (ap (λ (it : List ℕ). bytes ++ it) (sym (taken_text one later count rest state e)) ∙ so_far)))

pub row_after : (one : ℕ → Drawn) (later : Bool) (count rest state state' whole : ℕ)
    → count ≡ rest + 1 → state' ≡ (one state).after → (several one later count state).after ≡ whole → (several one true rest state').after ≡ whole
row_after one later count rest state state' whole e after so_far =
    ap (λ (it : ℕ). (several one true rest it).after) after ∙ (sym (taken_after one later count rest state e) ∙ so_far)
