-- Phrases by positions are phrases in one value: the positions of two values never follow one another.
use Rattle.std.proofs.Common.{◌≡◌, ◌≢◌, ℕ, suc, ◌+◌, ◌<◌, ◌≤◌, Bool, true, false, ◌&&◌, ◌||◌, cond, List, [], ◌∷◌, ◌++◌, length, All, refl, sym, ap, ◌∙◌, inl, inr, arith, nat_eq}
use Rattle.std.specs.List.{list_any, starts_with}
use Rattle.std.specs.Str.{bytes_eq}
use Rattle.std.proofs.lemmas.Bool.{cases_Bool, cases_eq, ne_eqb, eq-eqb, eqb-true}
use Rattle.std.proofs.lemmas.List.Elements.{All-cons, All-nil, All-append}
use Rattle.std.proofs.lemmas.Cmp.{nat_list_eq_equiv}
use Rattle.std.proofs.lemmas.List.Folds.{list_any-append}
use Rattle.query_ast.specs.Leaf.{has_run, is_any}
use Rattle.flattener.specs.Flat.{placed_words, later_tokens, tokens_by, position_gap}
use Rattle.leaf_search.proofs.Tests.{and_false, any_agree, or_false}

abbrev pub Token : Type 0
Token = List ℕ × ℕ

-- a word at a position
abbrev pub stands_at : List ℕ → ℕ → List ℕ × ℕ → Bool
stands_at word at token = bytes_eq token.0 word && nat_eq token.1 at

-- words at a position and those behind it
abbrev pub run_in : List (List ℕ × ℕ) → List (List ℕ) → ℕ → Bool
run_in ts [] at = true
run_in ts (word ∷ words) at = list_any (stands_at word at) ts && run_in ts words (at + 1)

abbrev pub begins_run : List (List ℕ × ℕ) → List ℕ → List (List ℕ) → List ℕ × ℕ → Bool
begins_run ts word words token = bytes_eq token.0 word && run_in ts words (token.1 + 1)

abbrev pub phrase_in : List (List ℕ × ℕ) → List (List ℕ) → Bool
phrase_in ts [] = false
phrase_in ts (word ∷ words) = list_any (begins_run ts word words) ts

-- ---- tokens before and from a position on

abbrev Below : ℕ → List ℕ × ℕ → Type 0
Below end token = token.1 < end

abbrev Above : ℕ → List ℕ × ℕ → Type 0
Above end token = end < token.1

never_at : (P : List ℕ × ℕ → Type 0) (word : List ℕ) (at : ℕ) → ((token : List ℕ × ℕ) → P token → token.1 ≢ at) → (ts : List (List ℕ × ℕ)) → All P ts → list_any (stands_at word at) ts ≡ false
never_at P word at other ts all =
    any_agree P (stands_at word at) (λ token. false) (λ token own. ap (λ (b : Bool). bytes_eq token.0 word && b) (ne_eqb token.1 at (other token own)) ∙ and_false (bytes_eq token.0 word)) ts all
    ∙ none ts
  where
    none : (ts : List (List ℕ × ℕ)) → list_any (λ (token : List ℕ × ℕ). false) ts ≡ false
    none [] = refl
    none (token ∷ ts) = none ts

module _ (end : ℕ) (before after : List (List ℕ × ℕ)) (low : All (Below end) before) (high : All (Above end) after) where
  look_low : (word : List ℕ) (at : ℕ) → at ≤ end → list_any (stands_at word at) (before ++ after) ≡ list_any (stands_at word at) before
  look_low word at within =
      list_any-append (stands_at word at) before after
      ∙ ap (λ (b : Bool). list_any (stands_at word at) before || b) (never_at (Above end) word at (λ token own same. omega (arith, own, same, within)) after high)
      ∙ or_false (list_any (stands_at word at) before)

  look_high : (word : List ℕ) (at : ℕ) → end ≤ at → list_any (stands_at word at) (before ++ after) ≡ list_any (stands_at word at) after
  look_high word at past =
      list_any-append (stands_at word at) before after
      ∙ ap (λ (b : Bool). b || list_any (stands_at word at) after) (never_at (Below end) word at (λ token own same. omega (arith, own, same, past)) before low)

  run_low : (words : List (List ℕ)) (at : ℕ) → at ≤ end → run_in (before ++ after) words at ≡ run_in before words at
  run_low [] at within = refl
  run_low (word ∷ words) at within = elim (cases_eq at end) [
    | inl here ↦
        let none : list_any (stands_at word at) before ≡ false = never_at (Below end) word at (λ token own same. omega (arith, own, same, here)) before low in
        rw (look_low word at within, none) refl
    | inr other ↦ rw (look_low word at within, run_low words (at + 1) (omega (arith, within, other))) refl
  ]

  run_high : (words : List (List ℕ)) (at : ℕ) → end < at → run_in (before ++ after) words at ≡ run_in after words at
  run_high [] at past = refl
  run_high (word ∷ words) at past = rw (look_high word at (omega (arith, past)), run_high words (at + 1) (omega (arith, past))) refl

  pub phrase_parts : (asked : List (List ℕ)) → phrase_in (before ++ after) asked ≡ (phrase_in before asked || phrase_in after asked)
  phrase_parts [] = refl
  phrase_parts (word ∷ words) =
      list_any-append (begins_run (before ++ after) word words) before after
      ∙ ap (λ (b : Bool). b || list_any (begins_run (before ++ after) word words) after)
      (any_agree (Below end) (begins_run (before ++ after) word words) (begins_run before word words)
      (λ token own. ap (λ (b : Bool). bytes_eq token.0 word && b) (run_low words (token.1 + 1) (omega (arith, own)))) before low)
      ∙ ap (λ (b : Bool). list_any (begins_run before word words) before || b)
      (any_agree (Above end) (begins_run (before ++ after) word words) (begins_run after word words)
      (λ token own. ap (λ (b : Bool). bytes_eq token.0 word && b) (run_high words (token.1 + 1) (omega (arith, own)))) after high)

-- ---- one value

above_placed : (low start : ℕ) (ws : List (List ℕ)) → low < start → All (Above low) (placed_words start ws)
above_placed low start [] below = All-nil (Above low)
above_placed low start (w ∷ ws) below = All-cons (Above low) (w, start) (placed_words (start + 1) ws) below (above_placed low (start + 1) ws (omega (arith, below)))

below_placed : (end start : ℕ) (ws : List (List ℕ)) → start + length ws ≤ end → All (Below end) (placed_words start ws)
below_placed end start [] within = All-nil (Below end)
below_placed end start (w ∷ ws) within = All-cons (Below end) (w, start) (placed_words (start + 1) ws) (omega (arith, within)) (below_placed end (start + 1) ws (omega (arith, within)))

run_past : (start : ℕ) (w : List ℕ) (ws words : List (List ℕ)) (at : ℕ) → start < at → run_in (placed_words start (w ∷ ws)) words at ≡ run_in (placed_words (start + 1) ws) words at
run_past start w ws [] at past = refl
run_past start w ws (word ∷ words) at past =
    let none : stands_at word at (w, start) ≡ false = ap (λ (b : Bool). bytes_eq w word && b) (ne_eqb start at (λ same. omega (arith, same, past))) ∙ and_false (bytes_eq w word) in
    rw (none, run_past start w ws words (at + 1) (omega (arith, past))) refl

and_true : (a : Bool) → (a && true) ≡ a
and_true true = refl
and_true false = refl

run_here : (start : ℕ) (ws words : List (List ℕ)) → run_in (placed_words start ws) words start ≡ starts_with bytes_eq ws words
run_here start [] [] = refl
run_here start (w ∷ ws) [] = refl
run_here start [] (word ∷ words) = refl
run_here start (w ∷ ws) (word ∷ words) =
    let own : stands_at word start (w, start) ≡ bytes_eq w word = ap (λ (b : Bool). bytes_eq w word && b) (eq-eqb start start refl) ∙ and_true (bytes_eq w word) in
    let rest : list_any (stands_at word start) (placed_words (start + 1) ws) ≡ false = never_at (Above start) word start (λ token own same. omega (arith, own, same)) (placed_words (start + 1) ws) (above_placed start (start + 1) ws (omega arith)) in
    rw (own, rest, or_false (bytes_eq w word), nat_list_eq_equiv.symm w word, run_past start w ws words (start + 1) (omega arith), run_here (start + 1) ws words) refl

pub phrase_placed : (start : ℕ) (ws : List (List ℕ)) (word : List ℕ) (words : List (List ℕ)) → phrase_in (placed_words start ws) (word ∷ words) ≡ has_run (word ∷ words) ws
phrase_placed start [] word words = refl
phrase_placed start (w ∷ ws) word words =
    ap (λ (b : Bool). (b && run_in (placed_words start (w ∷ ws)) words (start + 1)) || list_any (begins_run (placed_words start (w ∷ ws)) word words) (placed_words (start + 1) ws)) (nat_list_eq_equiv.symm w word)
    ∙ ap (λ (b : Bool). (bytes_eq word w && b) || list_any (begins_run (placed_words start (w ∷ ws)) word words) (placed_words (start + 1) ws))
    (run_past start w ws words (start + 1) (omega arith) ∙ run_here (start + 1) ws words)
    ∙ ap (λ (b : Bool). (bytes_eq word w && starts_with bytes_eq ws words) || b)
    (any_agree (Above start) (begins_run (placed_words start (w ∷ ws)) word words) (begins_run (placed_words (start + 1) ws) word words)
    (λ token own. ap (λ (b : Bool). bytes_eq token.0 word && b) (run_past start w ws words (token.1 + 1) (omega (arith, own)))) (placed_words (start + 1) ws) (above_placed start (start + 1) ws (omega arith))
    ∙ phrase_placed (start + 1) ws word words)

-- ---- all values

module _ (cut : List ℕ → List (List ℕ)) where
  above_later : (end : ℕ) (texts : List (List ℕ)) (low : ℕ) → low < end + position_gap → All (Above low) (later_tokens cut end texts)
  above_later end [] low below = All-nil (Above low)
  above_later end (s ∷ texts) low below =
      let next : ℕ = cond (nat_eq (length (cut s)) 0) end (end + position_gap + length (cut s)) in
      All-append (Above low) (placed_words (end + position_gap) (cut s)) (later_tokens cut next texts)
      (above_placed low (end + position_gap) (cut s) below)
      (elim (cases_Bool (nat_eq (length (cut s)) 0)) [
        | inl none ↦ rw none (above_later end texts low below)
        | inr some ↦ rw some (above_later (end + position_gap + length (cut s)) texts low (omega (arith, below)))
      ])

  no_words : (ws : List (List ℕ)) → nat_eq (length ws) 0 ≡ true → ws ≡ []
  no_words [] e = refl
  no_words (w ∷ ws) e = absurd (let no : suc (length ws) ≡ 0 = eqb-true (suc (length ws)) 0 e in omega (arith, no))

  pub phrase_later : (word : List ℕ) (words : List (List ℕ)) (end : ℕ) (texts : List (List ℕ)) → phrase_in (later_tokens cut end texts) (word ∷ words) ≡ list_any (λ s. has_run (word ∷ words) (cut s)) texts
  phrase_later word words end [] = refl
  phrase_later word words end (s ∷ texts) =
      let asked : List (List ℕ) = word ∷ words in
      let rest : Bool = list_any (λ s. has_run asked (cut s)) texts in
      elim (cases_Bool (nat_eq (length (cut s)) 0)) [
        | inl none ↦
            let empty : cut s ≡ [] = no_words (cut s) none in
            rw none (ap (λ (ws : List (List ℕ)). phrase_in (placed_words (end + position_gap) ws ++ later_tokens cut end texts) asked) empty
            ∙ phrase_later word words end texts
            ∙ sym (ap (λ (ws : List (List ℕ)). has_run asked ws || rest) empty))
        | inr some ↦
            let next : ℕ = end + position_gap + length (cut s) in
            rw some (phrase_parts next (placed_words (end + position_gap) (cut s)) (later_tokens cut next texts)
            (below_placed next (end + position_gap) (cut s) (omega arith)) (above_later next texts next (omega arith)) asked
            ∙ ap (λ (b : Bool). b || phrase_in (later_tokens cut next texts) asked) (phrase_placed (end + position_gap) (cut s) word words)
            ∙ ap (λ (b : Bool). has_run asked (cut s) || b) (phrase_later word words next texts))
      ]

  pub phrase_tokens : (asked : List (List ℕ)) (texts : List (List ℕ)) → phrase_in (tokens_by cut texts) asked ≡ list_any (λ s. is_any asked && has_run asked (cut s)) texts
  phrase_tokens [] texts = sym (none texts)
    where
      none : (texts : List (List ℕ)) → list_any (λ (s : List ℕ). false) texts ≡ false
      none [] = refl
      none (s ∷ texts) = none texts
  phrase_tokens (word ∷ words) [] = refl
  phrase_tokens (word ∷ words) (s ∷ texts) =
      let asked : List (List ℕ) = word ∷ words in
      let end : ℕ = length (cut s) in
      phrase_parts end (placed_words 0 (cut s)) (later_tokens cut end texts) (below_placed end 0 (cut s) (omega arith)) (above_later end texts end (omega arith)) asked
      ∙ ap (λ (b : Bool). b || phrase_in (later_tokens cut end texts) asked) (phrase_placed 0 (cut s) word words)
      ∙ ap (λ (b : Bool). has_run asked (cut s) || b) (phrase_later word words end texts)
