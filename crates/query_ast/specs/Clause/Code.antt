-- A code for clauses, by which a proof tells two of them apart: the steps that build a clause on a stack.
use Rattle.std.specs.Prelude.{◌≡◌, ◌⊎◌, ℕ, Bool, true, false, List, [], ◌∷◌, Option, refl}
use Rattle.std.proofs.Common.{◌∙◌, ap}
use Rattle.std.specs.Coded.{Coded, code_by, coded×, coded⊎, coded_ℕ, coded_bool, coded_list, coded_option}
use base.Stored.{coded_unit}
use mathlib.Core.Logic.{inl, inr}
use Rattle.score_math.specs.declared.score.ScoreMode.{ScoreMode}
use Rattle.score_math.specs.contracts.score.ScoreMode as score_mode
use Rattle.tree_objects.specs.declared.field_value.FieldValue.{FieldValue}
use Rattle.tree_objects.specs.contracts.field_value.FieldValue as field_value
use Rattle.query_ast.specs.declared.query.RangeEnd.{RangeEnd}
use Rattle.query_ast.specs.contracts.query.RangeEnd as range_end
use Rattle.query_ast.specs.Clause.{Test, is_among, is_between, exists, begins_with, has_words, has_phrase, Leaf, match_all, match_none, ids, on_field, parent_id, Clause, leaf, bool, constant_score, dis_max, nested, to_child, has_child, has_parent, Clauses, no_clauses, clause}

-- ---- leaves: a sum of their parts

abbrev TestParts : Type 0
TestParts = List FieldValue ⊎ ((RangeEnd × RangeEnd) ⊎ (Unit {0} ⊎ (List ℕ ⊎ ((FieldValue × Bool) ⊎ FieldValue))))

abbrev test_parts : Test → TestParts
test_parts (is_among values) = inl values
test_parts (is_between low high) = inr (inl (low, high))
test_parts exists = inr (inr (inl tt))
test_parts (begins_with start) = inr (inr (inr (inl start)))
test_parts (has_words value all) = inr (inr (inr (inr (inl (value, all)))))
test_parts (has_phrase value) = inr (inr (inr (inr (inr value))))

abbrev test_by : TestParts → Test
test_by (inl values) = is_among values
test_by (inr (inl ends)) = is_between ends.0 ends.1
test_by (inr (inr (inl _))) = exists
test_by (inr (inr (inr (inl start)))) = begins_with start
test_by (inr (inr (inr (inr (inl asked))))) = has_words asked.0 asked.1
test_by (inr (inr (inr (inr (inr value))))) = has_phrase value

pub test_by-parts : (t : Test) → test_by (test_parts t) ≡ t
test_by-parts (is_among values) = refl
test_by-parts (is_between low high) = refl
test_by-parts exists = refl
test_by-parts (begins_with start) = refl
test_by-parts (has_words value all) = refl
test_by-parts (has_phrase value) = refl

abbrev bytes_code : Coded (List ℕ)
bytes_code = coded_list coded_ℕ

abbrev number_code : Coded (Option ℕ)
number_code = coded_option coded_ℕ

abbrev pub test_code : Coded Test
test_code =
    code_by TestParts
    (coded⊎ (coded_list field_value.the_row.coded)
    (coded⊎ (coded× range_end.the_row.coded range_end.the_row.coded)
    (coded⊎ coded_unit
    (coded⊎ bytes_code
    (coded⊎ (coded× field_value.the_row.coded coded_bool) field_value.the_row.coded)))))
    test_parts test_by test_by-parts

abbrev LeafParts : Type 0
LeafParts = Unit {0} ⊎ (Unit {0} ⊎ (List (List ℕ) ⊎ ((Option ℕ × Test) ⊎ (Option ℕ × List ℕ))))

abbrev leaf_parts : Leaf → LeafParts
leaf_parts match_all = inl tt
leaf_parts match_none = inr (inl tt)
leaf_parts (ids listed) = inr (inr (inl listed))
leaf_parts (on_field field test) = inr (inr (inr (inl (field, test))))
leaf_parts (parent_id child id) = inr (inr (inr (inr (child, id))))

abbrev leaf_by : LeafParts → Leaf
leaf_by (inl _) = match_all
leaf_by (inr (inl _)) = match_none
leaf_by (inr (inr (inl listed))) = ids listed
leaf_by (inr (inr (inr (inl asked)))) = on_field asked.0 asked.1
leaf_by (inr (inr (inr (inr joined)))) = parent_id joined.0 joined.1

pub leaf_by-parts : (l : Leaf) → leaf_by (leaf_parts l) ≡ l
leaf_by-parts match_all = refl
leaf_by-parts match_none = refl
leaf_by-parts (ids listed) = refl
leaf_by-parts (on_field field test) = refl
leaf_by-parts (parent_id child id) = refl

abbrev pub leaf_code : Coded Leaf
leaf_code =
    code_by LeafParts
    (coded⊎ coded_unit (coded⊎ coded_unit (coded⊎ (coded_list bytes_code) (coded⊎ (coded× number_code test_code) (coded× number_code bytes_code)))))
    leaf_parts leaf_by leaf_by-parts

-- ---- what stands around one clause

abbrev Around : Type 0
Around = ℕ ⊎ ((Option ℕ × ScoreMode) ⊎ (Option ℕ ⊎ ((Option ℕ × (ScoreMode × (ℕ × Option ℕ))) ⊎ (Option ℕ × (Bool × ℕ)))))

abbrev around_code : Coded Around
around_code =
    coded⊎ coded_ℕ
    (coded⊎ (coded× number_code score_mode.the_row.coded)
    (coded⊎ number_code
    (coded⊎ (coded× number_code (coded× score_mode.the_row.coded (coded× coded_ℕ number_code)))
    (coded× number_code (coded× coded_bool coded_ℕ)))))

abbrev put_in : Around → Clause → Clause
put_in (inl boost) c = constant_score c boost
put_in (inr (inl a)) c = nested a.0 c a.1
put_in (inr (inr (inl scope))) c = to_child scope c
put_in (inr (inr (inr (inl a)))) c = has_child a.0 c a.1.0 a.1.1.0 a.1.1.1
put_in (inr (inr (inr (inr a)))) c = has_parent a.0 c a.1.0 a.1.1

-- ---- steps: a leaf; a list without clauses, or the clause on top put in front of the list below it; the four lists on top
-- made a `bool`; and something put around the clause on top. A list stands on the stack as the `dis_max` of it.

abbrev Step : Type 0
Step = (Leaf × ℕ) ⊎ (Bool ⊎ (Option ℕ ⊎ Around))

abbrev step_code : Coded Step
step_code = coded⊎ (coded× leaf_code coded_ℕ) (coded⊎ coded_bool (coded⊎ number_code around_code))

abbrev push_leaf : Leaf → ℕ → Step
push_leaf l boost = inl (l, boost)

abbrev push_list : Step
push_list = inr (inl false)

abbrev put_first : Step
put_first = inr (inl true)

abbrev make_bool : Option ℕ → Step
make_bool least = inr (inr (inl least))

abbrev put_around : Around → Step
put_around a = inr (inr (inr a))

abbrev mutual
  steps : Clause → List Step → List Step
  steps (leaf l boost) more = push_leaf l boost ∷ more
  steps (bool must filter should must_not least) more =
      steps_of must_not (steps_of should (steps_of filter (steps_of must (make_bool least ∷ more))))
  steps (constant_score c boost) more = steps c (put_around (inl boost) ∷ more)
  steps (dis_max cs) more = steps_of cs more
  steps (nested scope c mode) more = steps c (put_around (inr (inl (scope, mode))) ∷ more)
  steps (to_child scope c) more = steps c (put_around (inr (inr (inl scope))) ∷ more)
  steps (has_child child c mode least most) more = steps c (put_around (inr (inr (inr (inl (child, (mode, (least, most))))))) ∷ more)
  steps (has_parent parent c score boost) more = steps c (put_around (inr (inr (inr (inr (parent, (score, boost)))))) ∷ more)

  steps_of : Clauses → List Step → List Step
  steps_of no_clauses more = push_list ∷ more
  steps_of (clause c cs) more = steps_of cs (steps c (put_first ∷ more))

-- ---- what the steps build

abbrev listed : Clause → Clauses
listed (dis_max cs) = cs
listed c = no_clauses

abbrev with_first : List Clause → List Clause
with_first [] = []
with_first (c ∷ []) = []
with_first (c ∷ d ∷ stack) = dis_max (clause c (listed d)) ∷ stack

abbrev with_bool : Option ℕ → List Clause → List Clause
with_bool least [] = []
with_bool least (a ∷ []) = []
with_bool least (a ∷ b ∷ []) = []
with_bool least (a ∷ b ∷ c ∷ []) = []
with_bool least (a ∷ b ∷ c ∷ d ∷ stack) = bool (listed a) (listed b) (listed c) (listed d) least ∷ stack

abbrev with_around : Around → List Clause → List Clause
with_around a [] = []
with_around a (c ∷ stack) = put_in a c ∷ stack

abbrev after_step : Step → List Clause → List Clause
after_step (inl l) stack = leaf l.0 l.1 ∷ stack
after_step (inr (inl false)) stack = dis_max no_clauses ∷ stack
after_step (inr (inl true)) stack = with_first stack
after_step (inr (inr (inl least))) stack = with_bool least stack
after_step (inr (inr (inr a))) stack = with_around a stack

abbrev after_steps : List Step → List Clause → List Clause
after_steps [] stack = stack
after_steps (s ∷ more) stack = after_steps more (after_step s stack)

abbrev top : List Clause → Clause
top [] = dis_max no_clauses
top (c ∷ stack) = c

mutual
  after_steps-steps : (c : Clause) (more : List Step) (stack : List Clause) → after_steps (steps c more) stack ≡ after_steps more (c ∷ stack)
  after_steps-steps (leaf l boost) more stack = refl
  after_steps-steps (bool must filter should must_not least) more stack =
      after_steps-steps_of must_not (steps_of should (steps_of filter (steps_of must (make_bool least ∷ more)))) stack
      ∙ (after_steps-steps_of should (steps_of filter (steps_of must (make_bool least ∷ more))) (dis_max must_not ∷ stack)
      ∙ (after_steps-steps_of filter (steps_of must (make_bool least ∷ more)) (dis_max should ∷ dis_max must_not ∷ stack)
      ∙ after_steps-steps_of must (make_bool least ∷ more) (dis_max filter ∷ dis_max should ∷ dis_max must_not ∷ stack)))
  after_steps-steps (constant_score c boost) more stack = after_steps-steps c (put_around (inl boost) ∷ more) stack
  after_steps-steps (dis_max cs) more stack = after_steps-steps_of cs more stack
  after_steps-steps (nested scope c mode) more stack = after_steps-steps c (put_around (inr (inl (scope, mode))) ∷ more) stack
  after_steps-steps (to_child scope c) more stack = after_steps-steps c (put_around (inr (inr (inl scope))) ∷ more) stack
  after_steps-steps (has_child child c mode least most) more stack =
      after_steps-steps c (put_around (inr (inr (inr (inl (child, (mode, (least, most))))))) ∷ more) stack
  after_steps-steps (has_parent parent c score boost) more stack =
      after_steps-steps c (put_around (inr (inr (inr (inr (parent, (score, boost)))))) ∷ more) stack

  after_steps-steps_of : (cs : Clauses) (more : List Step) (stack : List Clause) → after_steps (steps_of cs more) stack ≡ after_steps more (dis_max cs ∷ stack)
  after_steps-steps_of no_clauses more stack = refl
  after_steps-steps_of (clause c cs) more stack =
      after_steps-steps_of cs (steps c (put_first ∷ more)) stack ∙ after_steps-steps c (put_first ∷ more) (dis_max cs ∷ stack)

pub top-built : (c : Clause) → top (after_steps (steps c []) []) ≡ c
top-built c = ap top (after_steps-steps c [] [])

abbrev pub clause_code : Coded Clause
clause_code = code_by (List Step) (coded_list step_code) (λ c. steps c []) (λ ss. top (after_steps ss [])) top-built
