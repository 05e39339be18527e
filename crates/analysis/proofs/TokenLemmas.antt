-- The tokens of a text, field by field.
use Rattle.std.proofs.Common.{◌≡◌, ℕ, suc, ◌+◌, ◌≤◌, List, [], ◌∷◌, map, length, slice_range, IsUtf8, refl, sym, ap, ap₂, ◌∙◌, arith}
use Rattle.std.specs.List.{range_with_len}
use Rattle.unicode_segmentation.specs.Word.{words as unfolded_words}
use Rattle.analysis.specs.declared.token_list.Token.{Token}
use Rattle.analysis.specs.Words.{folded, words}
use Rattle.analysis.specs.Tokens.{AreApart}
use Rattle.analysis.proofs.Placed.{StandBetween, placed_words, placed_words_stand, second-placed_words, few_placed_words}

-- the tokens of words at their places, with positions that count up
abbrev pub tokens_from : ℕ → List (ℕ × List ℕ) → List Token
tokens_from position [] = []
tokens_from position ((at, word) ∷ words) =
    record { folded = folded word; from = at; to = at + length word; position = position }
    ∷ tokens_from (position + 1) words

length-tokens_from : (position : ℕ) (ws : List (ℕ × List ℕ)) → length (tokens_from position ws) ≡ length ws
length-tokens_from position [] = refl
length-tokens_from position (w ∷ ws) = ap suc (length-tokens_from (position + 1) ws)

folded-tokens_from : (position : ℕ) (ws : List (ℕ × List ℕ)) → map (λ (t : Token). t.folded) (tokens_from position ws) ≡ map folded (map (λ (w : ℕ × List ℕ). w.1) ws)
folded-tokens_from position [] = refl
folded-tokens_from position (w ∷ ws) = ap (λ fs. folded w.1 ∷ fs) (folded-tokens_from (position + 1) ws)

position-tokens_from : (position : ℕ) (ws : List (ℕ × List ℕ)) → map (λ (t : Token). t.position) (tokens_from position ws) ≡ range_with_len position (length ws)
position-tokens_from position [] = refl
position-tokens_from position (w ∷ ws) = ap (λ ps. position ∷ ps) (position-tokens_from (position + 1) ws)

place-tokens_from : (text : List ℕ) (position from to : ℕ) (ws : List (ℕ × List ℕ)) → StandBetween text from to ws → map (λ (t : Token). slice_range text t.from t.to) (tokens_from position ws) ≡ map (λ (w : ℕ × List ℕ). w.1) ws
place-tokens_from text position from to [] stand = refl
place-tokens_from text position from to (w ∷ ws) stand =
    ap₂ (λ bytes rest. bytes ∷ rest) (sym stand.2) (place-tokens_from text (position + 1) (w.0 + length w.1) to ws stand.3)

apart-tokens_from : (text : List ℕ) (position from to : ℕ) (ws : List (ℕ × List ℕ)) → StandBetween text from to ws → AreApart from to (tokens_from position ws)
apart-tokens_from text position from to [] stand = stand
apart-tokens_from text position from to (w ∷ ws) stand =
    (stand.0, omega (arith, stand.1), apart-tokens_from text (position + 1) (w.0 + length w.1) to ws stand.3)

-- what the tokens of a text say, by their fields
pub words_of_tokens : (text : List ℕ) (ts : List Token) → ts ≡ tokens_from 0 (placed_words text) → map (λ (t : Token). t.folded) ts ≡ words text
unfolding words
words_of_tokens text ts same =
    ap (map (λ (t : Token). t.folded)) same ∙ folded-tokens_from 0 (placed_words text) ∙ ap (map folded) (second-placed_words text)

pub places_of_tokens : (text : List ℕ) (ts : List Token) → IsUtf8 text → ts ≡ tokens_from 0 (placed_words text) → map (λ (t : Token). slice_range text t.from t.to) ts ≡ unfolded_words text
places_of_tokens text ts utf8 same =
    ap (map (λ (t : Token). slice_range text t.from t.to)) same
    ∙ place-tokens_from text 0 0 (length text) (placed_words text) (placed_words_stand text utf8) ∙ second-placed_words text

pub tokens_are_apart : (text : List ℕ) (ts : List Token) → IsUtf8 text → ts ≡ tokens_from 0 (placed_words text) → AreApart 0 (length text) ts
tokens_are_apart text ts utf8 same =
    rw same (apart-tokens_from text 0 0 (length text) (placed_words text) (placed_words_stand text utf8))

pub positions_of_tokens : (text : List ℕ) (ts : List Token) → ts ≡ tokens_from 0 (placed_words text) → map (λ (t : Token). t.position) ts ≡ range_with_len 0 (length ts)
positions_of_tokens text ts same =
    rw same (position-tokens_from 0 (placed_words text) ∙ ap (range_with_len 0) (sym (length-tokens_from 0 (placed_words text))))

pub few_tokens : (text : List ℕ) (ts : List Token) → IsUtf8 text → ts ≡ tokens_from 0 (placed_words text) → length ts ≤ length text
few_tokens text ts utf8 same =
    rw same (omega (arith, length-tokens_from 0 (placed_words text), few_placed_words text utf8))
