-- The score of a `bool` and of a `dis_max`, clause by clause.
use Rattle.std.proofs.Common.{◌≡◌, ℕ, zero, suc, ◌+◌, ◌≤◌, max, Bool, true, false, ◌&&◌, cond, nat_le, List, [], ◌∷◌, ◌++◌, length, sum, fold, Option, Some, None, is_some, is_none, refl, sym, ap, ◌∙◌, subst, arith}
use Rattle.std.specs.List.{list_all}
use Rattle.std.proofs.lemmas.Bool.{le-leb}
use Rattle.std.proofs.Math.Dec.{leb-suc-zero}
use Rattle.std.proofs.lemmas.List.Sums.{sum_by-append, sum_by-cons}
use Rattle.block_join.specs.Merge.{put_together}
use Rattle.block_join.specs.declared.rule.Rule.{Rule}
use Rattle.block_join.specs.declared.rule.Rule.TheVariants.{Both, Kept, Without, Plus, Either, Greatest, Counted, AtLeast}
use Rattle.query_ast.specs.Hit.{scores, wanted, bool_hits, bool_score}
use Rattle.score_math.specs.Scores.{capped, greatest_of}
use Rattle.score_math.specs.declared.score.TheConstants.{SCORE_CAP}
use Rattle.query_eval.specs.Folds.{asked_score, folded, narrows}

abbrev Answers : Type 0
Answers = List (Option ℕ)

-- ---- what has no score to begin with

none_left : (rule : Rule) → narrows rule ≡ true → (x : Option ℕ) → put_together rule None x ≡ None
none_left Both is x = refl
none_left Kept is x = refl
none_left Without is x = refl
none_left Plus is x = refl
none_left Either is x = absurd (let no : ⊥ = cc in no)
none_left Greatest is x = absurd (let no : ⊥ = cc in no)
none_left Counted is x = absurd (let no : ⊥ = cc in no)
none_left (AtLeast n) is x = refl

pub folded_none : (rule : Rule) → narrows rule ≡ true → (given : Answers) → folded rule None given ≡ None
folded_none rule is [] = refl
folded_none rule is (x ∷ given) = ap (λ (y : Option ℕ). folded rule y given) (none_left rule is x) ∙ folded_none rule is given

-- ---- sums

sum_more : (s : ℕ) (given : List ℕ) → sum (s ∷ given) ≡ s + sum given
sum_more s given = omega (arith, sum_by-cons (λ x. x) s given)

sum_none : ◌≡◌ {A = ℕ} (sum []) 0
sum_none = refl

cap_more : (x s : ℕ) (given : List ℕ) → capped (capped (x + s) + sum given) ≡ capped (x + sum (s ∷ given))
cap_more x s given = omega (arith, sum_more s given)

cap_none : (x : ℕ) → x ≤ SCORE_CAP → x ≡ capped (x + sum [])
cap_none x small = omega (arith, small, sum_none)

pub fold_both : (x : ℕ) (given : Answers) → x ≤ SCORE_CAP → folded Both (Some x) given ≡ cond (list_all is_some given) (Some (capped (x + sum (scores given)))) None
fold_both x [] small = ap Some (cap_none x small)
fold_both x (None ∷ given) small = folded_none Both refl given
fold_both x (Some s ∷ given) small =
    fold_both (capped (x + s)) given (omega arith)
    ∙ ap (λ (n : ℕ). cond (list_all is_some given) (Some n) None) (cap_more x s (scores given))

pub fold_kept : (x : ℕ) (given : Answers) → folded Kept (Some x) given ≡ cond (list_all is_some given) (Some x) None
fold_kept x [] = refl
fold_kept x (None ∷ given) = folded_none Kept refl given
fold_kept x (Some s ∷ given) = fold_kept x given

pub fold_without : (x : ℕ) (given : Answers) → folded Without (Some x) given ≡ cond (list_all is_none given) (Some x) None
fold_without x [] = refl
fold_without x (None ∷ given) = fold_without x given
fold_without x (Some s ∷ given) = folded_none Without refl given

pub fold_plus : (x : ℕ) (given : Answers) → x ≤ SCORE_CAP → folded Plus (Some x) given ≡ Some (capped (x + sum (scores given)))
fold_plus x [] small = ap Some (cap_none x small)
fold_plus x (None ∷ given) small = fold_plus x given small
fold_plus x (Some s ∷ given) small = fold_plus (capped (x + s)) given (omega arith) ∙ ap Some (cap_more x s (scores given))

either_some : (x : ℕ) (given : Answers) → x ≤ SCORE_CAP → folded Either (Some x) given ≡ Some (capped (x + sum (scores given)))
either_some x [] small = ap Some (cap_none x small)
either_some x (None ∷ given) small = either_some x given small
either_some x (Some s ∷ given) small = either_some (capped (x + s)) given (omega arith) ∙ ap Some (cap_more x s (scores given))

-- the sum of those that there are, if there are any
abbrev pub sum_if : List ℕ → Option ℕ
sum_if [] = None
sum_if (s ∷ given) = Some (capped (sum (s ∷ given)))

pub fold_either : (given : Answers) → folded Either None given ≡ sum_if (scores given)
fold_either [] = refl
fold_either (None ∷ given) = fold_either given
fold_either (Some s ∷ given) =
    either_some (capped s) given (omega arith)
    ∙ ap Some (omega (arith, sum_more s (scores given)))

-- ---- counts

counted_some : (n : ℕ) (given : Answers) → n ≤ SCORE_CAP → folded Counted (Some n) given ≡ Some (capped (n + length (scores given)))
counted_some n [] small = ap Some (omega (arith, small))
counted_some n (None ∷ given) small = counted_some n given small
counted_some n (Some s ∷ given) small = counted_some (capped (n + 1)) given (omega arith) ∙ ap Some (omega arith)

abbrev pub count_if : List ℕ → Option ℕ
count_if [] = None
count_if (s ∷ given) = Some (capped (length (s ∷ given)))

pub fold_counted : (given : Answers) → folded Counted None given ≡ count_if (scores given)
fold_counted [] = refl
fold_counted (None ∷ given) = fold_counted given
fold_counted (Some s ∷ given) = counted_some 1 given (omega arith) ∙ ap Some (omega arith)

-- ---- the greatest

greatest_some : (x : ℕ) (given : Answers) → folded Greatest (Some x) given ≡ Some (fold max x (scores given))
greatest_some x [] = refl
greatest_some x (None ∷ given) = greatest_some x given
greatest_some x (Some s ∷ given) = greatest_some (max x s) given

pub fold_greatest : (given : Answers) → folded Greatest None given ≡ greatest_of (scores given)
fold_greatest [] = refl
fold_greatest (None ∷ given) = fold_greatest given
fold_greatest (Some s ∷ given) = greatest_some s given

-- ---- bool

module _ (least : Option ℕ) where
  -- but for no clause at all
  pub bool_open : (must filter should must_not : Answers) → (must ≡ [] → filter ≡ [] → should ≡ [] → must_not ≡ [] → ⊥)
      → bool_score must filter should must_not least ≡ cond (bool_hits must filter should must_not least) (Some (capped (sum (scores must ++ scores should)))) None
  bool_open (x ∷ must) filter should must_not some = refl
  bool_open [] (x ∷ filter) should must_not some = refl
  bool_open [] [] (x ∷ should) must_not some = refl
  bool_open [] [] [] (x ∷ must_not) some = refl
  bool_open [] [] [] [] some = absurd (some refl refl refl refl)

pass_kept : (a : Bool) (x : ℕ) (filter : Answers) → folded Kept (cond a (Some x) None) filter ≡ cond (a && list_all is_some filter) (Some x) None
pass_kept true x filter = fold_kept x filter
pass_kept false x filter = folded_none Kept refl filter

pass_without : (a : Bool) (x : ℕ) (must_not : Answers) → folded Without (cond a (Some x) None) must_not ≡ cond (a && list_all is_none must_not) (Some x) None
pass_without true x must_not = fold_without x must_not
pass_without false x must_not = folded_none Without refl must_not

-- what the clauses that have to hit leave, and those that must not
abbrev pub required : Answers → Answers → Answers → Option ℕ
required must filter must_not = folded Without (folded Kept (folded Both (Some 0) must) filter) must_not

abbrev are_required : Answers → Answers → Answers → Bool
are_required must filter must_not = (list_all is_some must && list_all is_some filter) && list_all is_none must_not

required_is : (must filter must_not : Answers) → required must filter must_not ≡ cond (are_required must filter must_not) (Some (capped (0 + sum (scores must)))) None
required_is must filter must_not =
    ap (λ (x : Option ℕ). folded Without (folded Kept x filter) must_not) (fold_both 0 must (omega arith))
    ∙ ap (λ (x : Option ℕ). folded Without x must_not) (pass_kept (list_all is_some must) (capped (0 + sum (scores must))) filter)
    ∙ pass_without (list_all is_some must && list_all is_some filter) (capped (0 + sum (scores must))) must_not

together : (a b c d : Bool) → ((a && b) && c) && d ≡ a && (b && (c && d))
together true true true d = refl
together true true false d = refl
together true false c d = refl
together false b c d = refl

total : (must should : List ℕ) → capped (capped (0 + sum must) + sum should) ≡ capped (sum (must ++ should))
total must should = omega (arith, sum_by-append (λ x. x) must should)

-- ---- what is asked of `should`

asked_required : (a : Bool) (x w : ℕ) (found : List ℕ) → asked_score w (cond a (Some x) None) found ≡ cond (a && nat_le w (length found)) (Some (capped (x + sum found))) None
asked_required true x w found = refl
asked_required false x w found = refl

pub bool_asked : (must filter should must_not : Answers) (least : Option ℕ) (w : ℕ) → (must ≡ [] → filter ≡ [] → should ≡ [] → must_not ≡ [] → ⊥) → wanted least must filter should ≡ w
    → asked_score w (required must filter must_not) (scores should) ≡ bool_score must filter should must_not least
bool_asked must filter should must_not least w some is =
    let a : Bool = are_required must filter must_not in
    ap (λ (r : Option ℕ). asked_score w r (scores should)) (required_is must filter must_not)
    ∙ asked_required a (capped (0 + sum (scores must))) w (scores should)
    ∙ ap (λ (n : ℕ). cond (a && nat_le w (length (scores should))) (Some n) None) (total (scores must) (scores should))
    ∙ ap (λ (b : Bool). cond b (Some (capped (sum (scores must ++ scores should)))) None)
    (ap (λ (n : ℕ). a && nat_le n (length (scores should))) (sym is)
    ∙ together (list_all is_some must) (list_all is_some filter) (list_all is_none must_not) (nat_le (wanted least must filter should) (length (scores should))))
    ∙ sym (bool_open least must filter should must_not some)

-- none of them has to hit
plus_required : (a : Bool) (x : ℕ) (should : Answers) → x ≤ SCORE_CAP → folded Plus (cond a (Some x) None) should ≡ asked_score 0 (cond a (Some x) None) (scores should)
plus_required true x should small = fold_plus x should small ∙ sym (ap (λ (b : Bool). cond b (Some (capped (x + sum (scores should)))) None) (le-leb 0 (length (scores should)) (omega arith)))
plus_required false x should small = folded_none Plus refl should

pub plus_asked : (must filter should must_not : Answers) → folded Plus (required must filter must_not) should ≡ asked_score 0 (required must filter must_not) (scores should)
plus_asked must filter should must_not =
    subst (λ (r : Option ℕ). folded Plus r should ≡ asked_score 0 r (scores should)) (sym (required_is must filter must_not))
    (plus_required (are_required must filter must_not) (capped (0 + sum (scores must))) should (omega arith))

-- one does
both_sum : (first : Option ℕ) (found : List ℕ) → put_together Both first (sum_if found) ≡ asked_score 1 first found
both_sum None found = refl
both_sum (Some x) [] = refl
both_sum (Some x) (s ∷ found) =
    ap Some (omega arith) ∙ sym (ap (λ (b : Bool). cond b (Some (capped (x + sum (s ∷ found)))) None) (le-leb 1 (length (s ∷ found)) (omega arith)))

pub one_asked : (first : Option ℕ) (should : Answers) → put_together Both first (folded Either None should) ≡ asked_score 1 first (scores should)
one_asked first should = ap (put_together Both first) (fold_either should) ∙ both_sum first (scores should)

-- several do
never_reached : (w : ℕ) → 1 ≤ w → nat_le w 0 ≡ false
never_reached zero some = absurd (omega (arith, some))
never_reached (suc w) some = leb-suc-zero w

at_least : (w : ℕ) (first : Option ℕ) (found : List ℕ) → 1 ≤ w → length found ≤ SCORE_CAP → put_together (AtLeast w) (asked_score 1 first found) (count_if found) ≡ asked_score w first found
at_least w None found some few = refl
at_least w (Some x) [] some few = rw (never_reached w some) refl
at_least w (Some x) (s ∷ found) some few =
    let one : nat_le 1 (length (s ∷ found)) ≡ true = le-leb 1 (length (s ∷ found)) (omega arith) in
    let count : capped (length (s ∷ found)) ≡ length (s ∷ found) = omega (arith, few) in
    ap (λ (b : Bool). put_together (AtLeast w) (cond b (Some (capped (x + sum (s ∷ found)))) None) (count_if (s ∷ found))) one
    ∙ ap (λ (n : ℕ). cond (nat_le w n) (Some (capped (x + sum (s ∷ found)))) None) count

pub many_asked : (w : ℕ) (first : Option ℕ) (should : Answers) → 1 ≤ w → length (scores should) ≤ SCORE_CAP
    → put_together (AtLeast w) (put_together Both first (folded Either None should)) (folded Counted None should) ≡ asked_score w first (scores should)
many_asked w first should some few =
    ap (λ (r : Option ℕ). put_together (AtLeast w) r (folded Counted None should)) (one_asked first should)
    ∙ ap (put_together (AtLeast w) (asked_score 1 first (scores should))) (fold_counted should)
    ∙ at_least w first (scores should) some few

pub few_scores : (given : Answers) → length (scores given) ≤ length given
few_scores [] = omega arith
few_scores (None ∷ given) = omega (arith, few_scores given)
few_scores (Some s ∷ given) = omega (arith, few_scores given)
