-- Roots are counted as the documents of scope 0, and tallies take scores one by one.
use Rattle.std.proofs.Common.{◌≡◌, ℕ, zero, suc, ◌+◌, ◌*◌, ◌≤◌, min, max, Bool, true, false, ◌&&◌, cond, nat_le, List, [], ◌∷◌, ◌++◌, length, Option, Some, None, refl, sym, ap, subst, ◌∙◌, arith, suc-mul}
use Rattle.query_ast.specs.Hit.{is_at_most}
use Rattle.score_math.specs.Running.{summary_of_more, summary_of_one}
use Rattle.score_math.specs.Scores.{Summarizes, mode_of}
use Rattle.score_math.specs.declared.score.ScoreMode.{ScoreMode}
use Rattle.score_math.specs.declared.score.TheConstants.{SCORE_CAP}
use Rattle.query_eval.specs.Sides.{answer_of}
use Rattle.query_eval.specs.Tallies.{IsTally}
use Rattle.query_eval.specs.declared.answer.Answer.{Answer}
use Rattle.query_eval.specs.declared.answer.Answer.TheVariants as answer
use Rattle.query_eval.proofs.Joined.{nothing_given}

-- ---- one tally

pub tally_first : (scores : List ℕ) (count total least greatest first score next : ℕ) → IsTally scores count total least greatest first → count ≡ 0 → next ≡ count + 1 → IsTally (scores ++ score ∷ []) next score score score score
tally_first [] count total least greatest first score next is none by =
    let one : 1 ≡ next = omega arith in subst (λ (n : ℕ). IsTally (score ∷ []) n score score score score) one (summary_of_one score, refl)
tally_first (s ∷ scores) count total least greatest first score next is none by = absurd (omega (arith, is.0.count_is, none))

pub tally_more : (scores : List ℕ) (count total least greatest first score next : ℕ) → IsTally scores count total least greatest first → 1 ≤ count → next ≡ count + 1
    → IsTally (scores ++ score ∷ []) next (total + score) (min least score) (max greatest score) first
tally_more [] count total least greatest first score next is some by = absurd (omega (arith, is, some))
tally_more (s ∷ scores) count total least greatest first score next is some by =
    subst (λ (n : ℕ). IsTally (s ∷ (scores ++ score ∷ [])) n (total + score) (min least score) (max greatest score) first) (sym by) (summary_of_more (s ∷ scores) total count least greatest score is.0, is.1)

mul_up : (n a b : ℕ) → a ≤ b → n * a ≤ n * b
mul_up zero a b le = omega arith
mul_up (suc n) a b le = omega (arith, le, suc-mul n a, suc-mul n b, mul_up n a b le)

-- a sum of so many scores of at most the greatest
pub bounded_first : (next score : ℕ) → next ≡ 0 + 1 → score ≤ next * score
bounded_first next score by = let one : 1 ≡ next = omega arith in subst (λ (n : ℕ). score ≤ n * score) one (omega arith)

pub bounded_more : (count total greatest score next : ℕ) → total ≤ count * greatest → next ≡ count + 1 → total + score ≤ next * max greatest score
bounded_more count total greatest score next was by =
    let top : ℕ = max greatest score in
    let same : suc count ≡ next = omega (arith, by) in
    let one : greatest ≤ top = omega arith in
    let two : score ≤ top = omega arith in
    subst (λ (n : ℕ). total + score ≤ n * top) same (omega (arith, was, suc-mul count top, mul_up count greatest top one, two))

pub bounded_small : (count total greatest : ℕ) → total ≤ count * greatest → greatest ≤ SCORE_CAP → total ≤ count * SCORE_CAP
bounded_small count total greatest was small = omega (arith, was, mul_up count greatest SCORE_CAP small)

pub ruleset tallies = (tally_first, tally_more, bounded_first, bounded_more, bounded_small)

-- ---- what it answers

pub answer_none : (asked : Answer) (scores : List ℕ) (count total least greatest first : ℕ) → IsTally scores count total least greatest first → count ≡ 0 → answer_of asked scores ≡ None
answer_none asked [] count total least greatest first is none = nothing_given asked
answer_none asked (s ∷ scores) count total least greatest first is none = absurd (omega (arith, is.0.count_is, none))

pub answer_children : (mode : ScoreMode) (least : ℕ) (most : Option ℕ) (scores : List ℕ) (count total low greatest first result : ℕ) → IsTally scores count total low greatest first → 1 ≤ count → (nat_le least count && is_at_most most count) ≡ true
    → ((scores : List ℕ) → Summarizes scores total count low greatest → mode_of mode scores ≡ Some result) → answer_of (answer.Children mode least most) scores ≡ Some result
answer_children mode least most [] count total low greatest first result is some between by = absurd (omega (arith, is, some))
answer_children mode least most (s ∷ scores) count total low greatest first result is some between by =
    let test : (nat_le least (length (s ∷ scores)) && is_at_most most (length (s ∷ scores))) ≡ true = ap (λ (n : ℕ). nat_le least n && is_at_most most n) is.0.count_is ∙ between in
    ap (λ (b : Bool). cond b (mode_of mode (s ∷ scores)) None) test ∙ by (s ∷ scores) is.0

pub answer_past : (mode : ScoreMode) (least : ℕ) (most : Option ℕ) (scores : List ℕ) (count total low greatest first : ℕ) → IsTally scores count total low greatest first → 1 ≤ count → (nat_le least count && is_at_most most count) ≡ false
    → answer_of (answer.Children mode least most) scores ≡ None
answer_past mode least most [] count total low greatest first is some past = absurd (omega (arith, is, some))
answer_past mode least most (s ∷ scores) count total low greatest first is some past =
    ap (λ (b : Bool). cond b (mode_of mode (s ∷ scores)) None) (ap (λ (n : ℕ). nat_le least n && is_at_most most n) is.0.count_is ∙ past)

pub answer_first : (score : Bool) (boost : ℕ) (scores : List ℕ) (count total low greatest first : ℕ) → IsTally scores count total low greatest first → 1 ≤ count → answer_of (answer.Parent score boost) scores ≡ Some (cond score first boost)
answer_first score boost [] count total low greatest first is some = absurd (omega (arith, is, some))
answer_first score boost (s ∷ scores) count total low greatest first is some = ap (λ (n : ℕ). Some (cond score n boost)) (sym is.1)
