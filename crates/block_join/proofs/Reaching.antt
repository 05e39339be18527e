-- Documents that others lead to: read on from any document, by u64s, and as the join up of hits that share one score.
use Rattle.std.proofs.Common.{◌≡◌, ℕ, zero, suc, ◌+◌, ◌*◌, ◌/◌, ◌<◌, ◌≤◌, Bool, true, false, cond, ◌&&◌, List, [], ◌∷◌, ◌++◌, length, map, take, drop, replicate, get_or, Option, Some, None, is_some, refl, sym, ap, ap₂, ◌∙◌, inl, inr, arith, length-drop, eqb}
use Rattle.std.specs.List.{zip, range_with_len}
use Rattle.std.specs.Option.{option_to_list}
use Rattle.std.proofs.lemmas.Bool.{cases_Bool}
use Rattle.std.proofs.lemmas.List.FromFn.{length-map-range_with_len, get_or-map-range_with_len}
use Rattle.block_bits.specs.Blocks.{documents_of}
use Rattle.block_bits.specs.Words.{bits_number, word_at, words_of}
use Rattle.score_math.specs.declared.score.ScoreMode.{ScoreMode}
use Rattle.score_math.specs.Scores.{mode_of}
use Rattle.block_join.specs.Joins.{joined}
use Rattle.block_join.specs.Kept.{came, since, reached, AreAlike}
use Rattle.block_join.specs.Scores.{filled}

-- ---- from any document on

pub length_reached : (some : Bool) (parents others : List Bool) → length others ≡ length parents → length (reached some parents others) ≡ length parents
length_reached some [] others e = refl
length_reached some (p ∷ parents) [] e = absurd (omega (arith, e))
length_reached some (p ∷ parents) (c ∷ others) e = ap suc (length_reached (came some p c) parents others (omega (arith, e)))

take_reached : (n : ℕ) (some : Bool) (parents others : List Bool) → take n (reached some parents others) ≡ reached some (take n parents) (take n others)
take_reached zero some parents others = refl
take_reached (suc n) some [] others = refl
take_reached (suc n) some (p ∷ parents) [] = refl
take_reached (suc n) some (p ∷ parents) (c ∷ others) = ap (λ bs. (p && some) ∷ bs) (take_reached n (came some p c) parents others)

drop_reached : (n : ℕ) (some : Bool) (parents others : List Bool) → length others ≡ length parents
    → drop n (reached some parents others) ≡ reached (since some (take n parents) (take n others)) (drop n parents) (drop n others)
drop_reached zero some parents others e = refl
drop_reached (suc n) some [] others e = refl
drop_reached (suc n) some (p ∷ parents) [] e = absurd (omega (arith, e))
drop_reached (suc n) some (p ∷ parents) (c ∷ others) e = drop_reached n (came some p c) parents others (omega (arith, e))

since_on : (n m : ℕ) (some : Bool) (parents others : List Bool) → length others ≡ length parents
    → since some (take (n + m) parents) (take (n + m) others) ≡ since (since some (take n parents) (take n others)) (take m (drop n parents)) (take m (drop n others))
since_on zero m some parents others e = let same : 0 + m ≡ m = omega arith in ap (λ k. since some (take k parents) (take k others)) same
since_on (suc n) m some [] [] e = none (suc n + m) ∙ sym (none m)
  where
    none : (k : ℕ) → since some (take k []) (take k []) ≡ some
    none zero = refl
    none (suc k) = refl
since_on (suc n) m some [] (c ∷ others) e = absurd (omega (arith, e))
since_on (suc n) m some (p ∷ parents) [] e = absurd (omega (arith, e))
since_on (suc n) m some (p ∷ parents) (c ∷ others) e =
    let next : suc n + m ≡ suc (n + m) = omega arith in
    ap (λ k. since some (take k (p ∷ parents)) (take k (c ∷ others))) next ∙ since_on n m (came some p c) parents others (omega (arith, e))

-- ---- by u64s

-- what came before a u64
abbrev pub before : List Bool → List Bool → ℕ → Bool
before parents others place = since false (take (64 * place) parents) (take (64 * place) others)

abbrev pub own : List Bool → ℕ → List Bool
own flags place = take 64 (drop (64 * place) flags)

pub own_long : (parents others : List Bool) (place : ℕ) → length others ≡ length parents → length (own others place) ≡ length (own parents place)
own_long parents others place e = shorter 64 (drop (64 * place) parents) (drop (64 * place) others) (omega (arith, e, length-drop (64 * place) parents, length-drop (64 * place) others))
  where
    shorter : (n : ℕ) (xs ys : List Bool) → length ys ≡ length xs → length (take n ys) ≡ length (take n xs)
    shorter zero xs ys e = refl
    shorter (suc n) [] [] e = refl
    shorter (suc n) [] (y ∷ ys) e = absurd (omega (arith, e))
    shorter (suc n) (x ∷ xs) [] e = absurd (omega (arith, e))
    shorter (suc n) (x ∷ xs) (y ∷ ys) e = ap suc (shorter n xs ys (omega (arith, e)))

pub own_short : (flags : List Bool) (place : ℕ) → length (own flags place) ≤ 64
own_short flags place = short 64 (drop (64 * place) flags)
  where
    short : (n : ℕ) (xs : List Bool) → length (take n xs) ≤ n
    short zero xs = omega arith
    short (suc n) [] = omega arith
    short (suc n) (x ∷ xs) = omega (arith, short n xs)

pub own_full : (flags : List Bool) (place : ℕ) → 64 * (place + 1) ≤ length flags → length (own flags place) ≡ 64
own_full flags place h = full 64 (drop (64 * place) flags) (omega (arith, h, length-drop (64 * place) flags))
  where
    full : (n : ℕ) (xs : List Bool) → n ≤ length xs → length (take n xs) ≡ n
    full zero xs h = refl
    full (suc n) [] h = absurd (omega (arith, h))
    full (suc n) (x ∷ xs) h = ap suc (full n xs (omega (arith, h)))

pub words_long : (flags : List Bool) → length (words_of flags) ≡ (length flags + 63) / 64
unfolding words_of
words_long flags = length-map-range_with_len (word_at flags) 0 ((length flags + 63) / 64)

pub word_read : (flags : List Bool) (place d : ℕ) → place < length (words_of flags) → get_or (words_of flags) place d ≡ word_at flags place
unfolding words_of
word_read flags place d h =
    get_or-map-range_with_len (word_at flags) 0 ((length flags + 63) / 64) place place d (omega (arith, h, length-map-range_with_len (word_at flags) 0 ((length flags + 63) / 64))) (omega arith)

pub words_all : (flags : List Bool) (n : ℕ) → n ≡ (length flags + 63) / 64 → map (word_at flags) (range_with_len 0 n) ≡ words_of flags
unfolding words_of
words_all flags n e = ap (λ k. map (word_at flags) (range_with_len 0 k)) e

pub reached_word : (parents others : List Bool) (place : ℕ) → length others ≡ length parents
    → bits_number (reached (before parents others place) (own parents place) (own others place)) ≡ word_at (reached false parents others) place
reached_word parents others place e =
    ap bits_number
    (sym (take_reached 64 (before parents others place) (drop (64 * place) parents) (drop (64 * place) others))
    ∙ ap (take 64) (sym (drop_reached (64 * place) false parents others e)))

pub before_next : (parents others : List Bool) (place : ℕ) → length others ≡ length parents
    → since (before parents others place) (own parents place) (own others place) ≡ before parents others (place + 1)
before_next parents others place e =
    let next : 64 * (place + 1) ≡ 64 * place + 64 = omega arith in
    rw next (sym (since_on (64 * place) 64 false parents others e))

-- ---- the join up

abbrev some_of : ℕ → Bool
some_of zero = false
some_of (suc n) = true

one_more : (n score : ℕ) → replicate n score ++ (score ∷ []) ≡ replicate (suc n) score
one_more zero score = refl
one_more (suc n) score = ap (λ ss. score ∷ ss) (one_more n score)

none_more : (n score : ℕ) → replicate n score ++ [] ≡ replicate n score
none_more zero score = refl
none_more (suc n) score = ap (λ ss. score ∷ ss) (none_more n score)

module _ (mode : ScoreMode) (one score to : ℕ) (together : (n : ℕ) → mode_of mode (one ∷ replicate n one) ≡ Some score) where
  answered : (n : ℕ) → mode_of mode (replicate n one) ≡ cond (some_of n) (Some score) None
  answered zero = refl
  answered (suc n) = together n

  joins : (n : ℕ) (scopes : List ℕ) (flags : List Bool) → length flags ≡ length scopes
      → joined (mode_of mode) None to (replicate n one) (zip scopes (map option_to_list (filled (Some one) flags))) ≡ filled (Some score) (reached (some_of n) (documents_of scopes to) flags)
  joins n [] [] e = refl
  joins n [] (flag ∷ flags) e = absurd (omega (arith, e))
  joins n (s ∷ scopes) [] e = absurd (omega (arith, e))
  joins n (s ∷ scopes) (true ∷ flags) e = elim (cases_Bool (eqb s to)) [
    | inl here ↦ rw here (ap₂ (λ (x : Option ℕ) (xs : List (Option ℕ)). x ∷ xs) (answered n) (joins 0 scopes flags (omega (arith, e))))
    | inr other ↦
        rw other
        (ap (λ (xs : List (Option ℕ)). None ∷ xs)
        (ap (λ since. joined (mode_of mode) None to since (zip scopes (map option_to_list (filled (Some one) flags)))) (one_more n one) ∙ joins (suc n) scopes flags (omega (arith, e))))
  ]
  joins n (s ∷ scopes) (false ∷ flags) e = elim (cases_Bool (eqb s to)) [
    | inl here ↦ rw here (ap₂ (λ (x : Option ℕ) (xs : List (Option ℕ)). x ∷ xs) (answered n) (joins 0 scopes flags (omega (arith, e))))
    | inr other ↦
        rw other
        (ap (λ (xs : List (Option ℕ)). None ∷ xs)
        (ap (λ since. joined (mode_of mode) None to since (zip scopes (map option_to_list (filled (Some one) flags)))) (none_more n one) ∙ joins n scopes flags (omega (arith, e))))
  ]

pub length_some : (scores : List (Option ℕ)) → length (map is_some scores) ≡ length scores
length_some [] = refl
length_some (x ∷ scores) = ap suc (length_some scores)

length_scopes : (scopes : List ℕ) (to : ℕ) → length (documents_of scopes to) ≡ length scopes
length_scopes [] to = refl
length_scopes (s ∷ scopes) to = ap suc (length_scopes scopes to)

-- the hits share one score
pub joined_alike : (mode : ScoreMode) (scores : List (Option ℕ)) (score : ℕ) (parents : List Bool) → AreAlike mode scores score → length scores ≡ length parents
    → (scopes : List ℕ) (to : ℕ) → parents ≡ documents_of scopes to
    → filled (Some score) (reached false parents (map is_some scores)) ≡ joined (mode_of mode) None to [] (zip scopes (map option_to_list scores))
joined_alike mode scores score parents alike e scopes to is =
    ap (λ ps. filled (Some score) (reached false ps (map is_some scores))) is
    ∙ sym (joins mode alike.own score to alike.together 0 scopes (map is_some scores) (omega (arith, e, length_some scores, ap length is, length_scopes scopes to)))
    ∙ ap (λ (ss : List (Option ℕ)). joined (mode_of mode) None to [] (zip scopes (map option_to_list ss))) (sym alike.are)
