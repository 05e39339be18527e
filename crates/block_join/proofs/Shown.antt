-- A set with scores, as one optional score a document.
use Rattle.std.proofs.Common.{◌≡◌, ℕ, zero, suc, ◌+◌, ◌<◌, ◌≤◌, Bool, true, false, List, [], ◌∷◌, ◌++◌, length, take, drop, replicate, map, set, Option, Some, None, is_some, refl, sym, ap, ◌∙◌, arith, take-append-drop, take-add, min, subst, Vec}
use Rattle.std.specs.List.{position_from, flat_map}
use Rattle.std.specs.Option.{option_to_list}
use Rattle.block_bits.specs.Flags.{is_marked}
use Rattle.block_join.specs.Kept.{shown, kept_score, marks, AreKept, AreScores, IsSame}
use Rattle.block_join.specs.declared.scores.Form.{Form}
use Rattle.block_join.specs.declared.scores.Scores.{Scores}
use Rattle.block_join.specs.declared.scores.Scores.TheVariants.{Each}
use Rattle.std.specs.declared.alloc.Global.{Global}
use Rattle.block_join.specs.declared.scores.Form.TheVariants.{Shared, Listed, Summed}
use Rattle.score_math.specs.declared.score.TheConstants.{SCORE_CAP}
use Rattle.block_join.specs.Scores.{filled}
use Rattle.block_join.proofs.Firsts.{NoneIn, FirstAt}

pub length_shown : (f : ℕ → ℕ) (at : ℕ) (flags : List Bool) → length (shown f at flags) ≡ length flags
length_shown f at [] = refl
length_shown f at (true ∷ flags) = ap suc (length_shown f (suc at) flags)
length_shown f at (false ∷ flags) = ap suc (length_shown f at flags)

pub shown_set : (f : ℕ → ℕ) (at : ℕ) (flags : List Bool) → map is_some (shown f at flags) ≡ flags
shown_set f at [] = refl
shown_set f at (true ∷ flags) = ap (λ bs. true ∷ bs) (shown_set f (suc at) flags)
shown_set f at (false ∷ flags) = ap (λ bs. false ∷ bs) (shown_set f at flags)

pub shown_same : (score at : ℕ) (flags : List Bool) → shown (λ k. score) at flags ≡ filled (Some score) flags
shown_same score at [] = refl
shown_same score at (true ∷ flags) = ap (λ (ss : List (Option ℕ)). Some score ∷ ss) (shown_same score (suc at) flags)
shown_same score at (false ∷ flags) = ap (λ (ss : List (Option ℕ)). None ∷ ss) (shown_same score at flags)

-- the documents that hit are those of the set
pub shown_next : (f : ℕ → ℕ) (at start : ℕ) (flags : List Bool) → position_from is_some start (shown f at flags) ≡ position_from is_marked start flags
shown_next f at start [] = refl
shown_next f at start (true ∷ flags) = refl
shown_next f at start (false ∷ flags) = shown_next f at (start + 1) flags

pub shown_drop : (f : ℕ → ℕ) (at n : ℕ) (flags : List Bool) → drop n (shown f at flags) ≡ shown f (at + marks (take n flags)) (drop n flags)
shown_drop f at zero flags = ap (λ n. shown f n flags) (omega arith)
shown_drop f at (suc n) [] = refl
shown_drop f at (suc n) (true ∷ flags) =
    let next : suc at + marks (take n flags) ≡ at + suc (marks (take n flags)) = omega arith in
    shown_drop f (suc at) n flags ∙ ap (λ m. shown f m (drop n flags)) next
shown_drop f at (suc n) (false ∷ flags) = shown_drop f at n flags

-- ---- how many there are

pub marks_append : (flags others : List Bool) → marks (flags ++ others) ≡ marks flags + marks others
marks_append [] others = omega arith
marks_append (true ∷ flags) others = omega (arith, marks_append flags others)
marks_append (false ∷ flags) others = marks_append flags others

pub marks_add : (n m : ℕ) (flags : List Bool) → marks (take (n + m) flags) ≡ marks (take n flags) + marks (take m (drop n flags))
marks_add n m flags = ap marks (take-add n m flags) ∙ marks_append (take n flags) (take m (drop n flags))

pub marks_parts : (n : ℕ) (flags : List Bool) → marks flags ≡ marks (take n flags) + marks (drop n flags)
marks_parts n flags = ap marks (sym (take-append-drop n flags)) ∙ marks_append (take n flags) (drop n flags)

pub marks_le : (flags : List Bool) → marks flags ≤ length flags
marks_le [] = omega arith
marks_le (true ∷ flags) = omega (arith, marks_le flags)
marks_le (false ∷ flags) = omega (arith, marks_le flags)

pub marks_none : (k : ℕ) (flags : List Bool) → NoneIn is_marked k flags → marks (take k flags) ≡ 0
marks_none zero flags h = refl
marks_none (suc k) [] h = refl
marks_none (suc k) (true ∷ flags) h = absurd (let none : true ≡ false = h.0 in cc)
marks_none (suc k) (false ∷ flags) h = marks_none k flags h.1

pub marks_first : (k : ℕ) (flags : List Bool) → FirstAt is_marked k flags → marks (take (suc k) flags) ≡ 1
marks_first zero [] h = absurd h
marks_first zero (true ∷ flags) h = refl
marks_first zero (false ∷ flags) h = absurd (cc)
marks_first (suc k) [] h = absurd h
marks_first (suc k) (true ∷ flags) h = absurd (let none : true ≡ false = h.0 in cc)
marks_first (suc k) (false ∷ flags) h = marks_first k flags h.1

pub marks_false : (n : ℕ) → marks (replicate n false) ≡ 0
marks_false zero = refl
marks_false (suc n) = marks_false n

-- ---- the scores in order

pub none_between : (f : ℕ → ℕ) (at k : ℕ) (flags : List Bool) → NoneIn is_marked k flags → flat_map option_to_list (take k (shown f at flags)) ≡ []
none_between f at zero flags h = refl
none_between f at (suc k) [] h = refl
none_between f at (suc k) (true ∷ flags) h = absurd (let none : true ≡ false = h.0 in cc)
none_between f at (suc k) (false ∷ flags) h = none_between f at k flags h.1

pub first_between : (f : ℕ → ℕ) (at k n more : ℕ) (flags : List Bool) → FirstAt is_marked k flags → n ≡ more + suc k
    → flat_map option_to_list (take n (shown f at flags)) ≡ f at ∷ flat_map option_to_list (take more (shown f (suc at) (drop (suc k) flags)))
first_between f at k zero more flags h e = absurd (omega (arith, e))
first_between f at zero (suc n) more [] h e = absurd h
first_between f at zero (suc n) more (true ∷ flags) h e =
    let same : n ≡ more = omega (arith, e) in ap (λ m. f at ∷ flat_map option_to_list (take m (shown f (suc at) flags))) same
first_between f at zero (suc n) more (false ∷ flags) h e = absurd (cc)
first_between f at (suc k) (suc n) more [] h e = absurd h
first_between f at (suc k) (suc n) more (true ∷ flags) h e = absurd (let none : true ≡ false = h.0 in cc)
first_between f at (suc k) (suc n) more (false ∷ flags) h e = first_between f at k n more flags h.1 (omega (arith, e))

-- ---- the scores as they are given

-- as far as there are documents in the set, the scores alone count
pub shown_alike : (f g : ℕ → ℕ) (at : ℕ) (flags : List Bool) → ((k : ℕ) → k < at + marks flags → f k ≡ g k) → shown f at flags ≡ shown g at flags
shown_alike f g at [] same = refl
shown_alike f g at (true ∷ flags) same =
    ap (λ n. Some n ∷ shown f (suc at) flags) (same at (omega arith)) ∙ ap (λ (ss : List (Option ℕ)). Some (g at) ∷ ss) (shown_alike f g (suc at) flags (λ k h. same k (omega (arith, h))))
shown_alike f g at (false ∷ flags) same = ap (λ (ss : List (Option ℕ)). None ∷ ss) (shown_alike f g at flags same)

pub shown_false : (f : ℕ → ℕ) (at n : ℕ) → shown f at (replicate n false) ≡ replicate n None
shown_false f at zero = refl
shown_false f at (suc n) = ap (λ (ss : List (Option ℕ)). None ∷ ss) (shown_false f at n)

-- a document put into the set, read up to it
pub shown_put : (f : ℕ → ℕ) (at doc : ℕ) (flags : List Bool) → doc < length flags
    → take (suc doc) (shown f at (set flags doc true)) ≡ take doc (shown f at flags) ++ (Some (f (at + marks (take doc flags))) ∷ [])
shown_put f at doc [] h = absurd (omega (arith, h))
shown_put f at zero (true ∷ flags) h = ap (λ n. Some (f n) ∷ []) (omega arith)
shown_put f at zero (false ∷ flags) h = ap (λ n. Some (f n) ∷ []) (omega arith)
shown_put f at (suc doc) (true ∷ flags) h =
    let next : suc at + marks (take doc flags) ≡ at + suc (marks (take doc flags)) = omega arith in
    ap (λ (ss : List (Option ℕ)). Some (f at) ∷ ss) (shown_put f (suc at) doc flags (omega (arith, h)) ∙ ap (λ n. take doc (shown f (suc at) flags) ++ (Some (f n) ∷ [])) next)
shown_put f at (suc doc) (false ∷ flags) h = ap (λ (ss : List (Option ℕ)). None ∷ ss) (shown_put f at doc flags (omega (arith, h)))

pub marks_put : (doc : ℕ) (flags : List Bool) → doc < length flags → marks (drop doc flags) ≡ 0 → marks (set flags doc true) ≡ suc (marks flags)
marks_put doc [] h none = absurd (omega (arith, h))
marks_put zero (true ∷ flags) h none = absurd (omega (arith, none))
marks_put zero (false ∷ flags) h none = refl
marks_put (suc doc) (true ∷ flags) h none = ap suc (marks_put doc flags (omega (arith, h)) none)
marks_put (suc doc) (false ∷ flags) h none = marks_put doc flags (omega (arith, h)) none

-- no score is more than the cap, where some document has it
filled_capped : (score : ℕ) (flags : List Bool) → ((k : ℕ) → k < marks flags → score ≤ SCORE_CAP) → filled (Some score) flags ≡ filled (Some (min score SCORE_CAP)) flags
filled_capped score [] h = refl
filled_capped score (true ∷ flags) h =
    let same : score ≡ min score SCORE_CAP = omega (arith, h 0 (omega arith)) in
    ap (λ (n : ℕ). Some n ∷ filled (Some n) flags) same
filled_capped score (false ∷ flags) h = ap (λ (ss : List (Option ℕ)). None ∷ ss) (filled_capped score flags h)

-- scores of their own, made one after the other
pub kept_each : (flags : List Bool) (scores : Scores) (each : Vec ℕ Global) → scores ≡ Each each → AreScores flags scores → AreKept flags (Listed each)
kept_each flags scores each is are =
    let own : AreScores flags (Each each) = subst (AreScores flags) is are in
    record { kept = own.long; capped = own.capped }

pub shared_is : (flags : List Bool) (form : Form) (score : ℕ) (all : List (Option ℕ)) → IsSame form score → AreKept flags form → shown (kept_score form) 0 flags ≡ all → all ≡ filled (Some (min score SCORE_CAP)) (map is_some all)
shared_is flags (Shared own) score all is are view =
    let capped : (k : ℕ) → k < marks flags → score ≤ SCORE_CAP = subst (λ n. (k : ℕ) → k < marks flags → n ≤ SCORE_CAP) is are.capped in
    let read : shown (λ k. score) 0 flags ≡ all = ap (λ (n : ℕ). shown (λ k. n) 0 flags) (sym is) ∙ view in
    subst (λ (ss : List (Option ℕ)). ss ≡ filled (Some (min score SCORE_CAP)) (map is_some ss)) read
    (shown_same score 0 flags ∙ filled_capped score flags capped ∙ ap (filled (Some (min score SCORE_CAP))) (sym (shown_set (λ k. score) 0 flags)))
shared_is flags (Listed own) score all is are view = absurd is
shared_is flags (Summed parts) score all is are view = absurd is
