-- A code for JSON values, by which a proof tells two of them apart: the steps that build the value on a stack.
-- A record that holds a `JsonValue` makes its own code out of `value_code`.
use Rattle.std.specs.Prelude.{◌≡◌, ℕ, zero, suc, ℤ, pos, true, false, List, [], ◌∷◌, refl}
use Rattle.std.proofs.Common.{◌∙◌, ap}
use Rattle.std.specs.Coded.{Coded, code_by, coded×, coded_ℕ, coded_ℤ, coded_list}
use Rattle.tree_json.specs.Value.{JsonValue, null, bool, whole, text, list, object, Elements, no_elements, element, Members, no_members, member}

pub data Step : Type 0 where
  push_null : Step
  push_true : Step
  push_false : Step
  push_whole : ℤ → Step
  push_text : List ℕ → Step
  push_list : Step
  push_object : Step
  put_element : Step
  put_member : List ℕ → Step

-- ---- a step is coded as its kind, with the number and the text that it carries

abbrev kind_of : Step → ℕ × (ℤ × List ℕ)
kind_of push_null = (0, (pos 0, []))
kind_of push_true = (1, (pos 0, []))
kind_of push_false = (2, (pos 0, []))
kind_of (push_whole z) = (3, (z, []))
kind_of (push_text s) = (4, (pos 0, s))
kind_of push_list = (5, (pos 0, []))
kind_of push_object = (6, (pos 0, []))
kind_of put_element = (7, (pos 0, []))
kind_of (put_member k) = (8, (pos 0, k))

abbrev step_by : ℕ → ℤ → List ℕ → Step
step_by zero z s = push_null
step_by (suc zero) z s = push_true
step_by (suc (suc zero)) z s = push_false
step_by (suc (suc (suc zero))) z s = push_whole z
step_by (suc (suc (suc (suc zero)))) z s = push_text s
step_by (suc (suc (suc (suc (suc zero))))) z s = push_list
step_by (suc (suc (suc (suc (suc (suc zero)))))) z s = push_object
step_by (suc (suc (suc (suc (suc (suc (suc zero))))))) z s = put_element
step_by (suc (suc (suc (suc (suc (suc (suc (suc n)))))))) z s = put_member s

pub step_of-kind : (s : Step) → step_by (kind_of s).0 (kind_of s).1.0 (kind_of s).1.1 ≡ s
step_of-kind push_null = refl
step_of-kind push_true = refl
step_of-kind push_false = refl
step_of-kind (push_whole z) = refl
step_of-kind (push_text s) = refl
step_of-kind push_list = refl
step_of-kind push_object = refl
step_of-kind put_element = refl
step_of-kind (put_member k) = refl

abbrev step_code : Coded Step
step_code = code_by (ℕ × (ℤ × List ℕ)) (coded× coded_ℕ (coded× coded_ℤ (coded_list coded_ℕ))) kind_of (λ p. step_by p.0 p.1.0 p.1.1) step_of-kind

-- ---- the steps of a value: the rest of a list, then its front, then "put it in front"

abbrev mutual
  steps : JsonValue → List Step → List Step
  steps null more = push_null ∷ more
  steps (bool true) more = push_true ∷ more
  steps (bool false) more = push_false ∷ more
  steps (whole z) more = push_whole z ∷ more
  steps (text s) more = push_text s ∷ more
  steps (list ds) more = steps_of_elements ds more
  steps (object ms) more = steps_of_members ms more

  steps_of_elements : Elements → List Step → List Step
  steps_of_elements no_elements more = push_list ∷ more
  steps_of_elements (element d ds) more = steps_of_elements ds (steps d (put_element ∷ more))

  steps_of_members : Members → List Step → List Step
  steps_of_members no_members more = push_object ∷ more
  steps_of_members (member k d ms) more = steps_of_members ms (steps d (put_member k ∷ more))

-- ---- what the steps build

abbrev with_element : JsonValue → JsonValue → JsonValue
with_element d (list ds) = list (element d ds)
with_element d v = v

abbrev with_member : List ℕ → JsonValue → JsonValue → JsonValue
with_member k d (object ms) = object (member k d ms)
with_member k d v = v

-- the two on top become one
abbrev joined : (JsonValue → JsonValue → JsonValue) → List JsonValue → List JsonValue
joined f [] = []
joined f (d ∷ []) = []
joined f (d ∷ v ∷ stack) = f d v ∷ stack

abbrev after_step : Step → List JsonValue → List JsonValue
after_step push_null stack = null ∷ stack
after_step push_true stack = bool true ∷ stack
after_step push_false stack = bool false ∷ stack
after_step (push_whole z) stack = whole z ∷ stack
after_step (push_text s) stack = text s ∷ stack
after_step push_list stack = list no_elements ∷ stack
after_step push_object stack = object no_members ∷ stack
after_step put_element stack = joined with_element stack
after_step (put_member k) stack = joined (with_member k) stack

abbrev after_steps : List Step → List JsonValue → List JsonValue
after_steps [] stack = stack
after_steps (s ∷ more) stack = after_steps more (after_step s stack)

abbrev top : List JsonValue → JsonValue
top [] = null
top (d ∷ stack) = d

mutual
  after_steps-steps : (d : JsonValue) (more : List Step) (stack : List JsonValue) → after_steps (steps d more) stack ≡ after_steps more (d ∷ stack)
  after_steps-steps null more stack = refl
  after_steps-steps (bool true) more stack = refl
  after_steps-steps (bool false) more stack = refl
  after_steps-steps (whole z) more stack = refl
  after_steps-steps (text s) more stack = refl
  after_steps-steps (list ds) more stack = after_steps-steps_of_elements ds more stack
  after_steps-steps (object ms) more stack = after_steps-steps_of_members ms more stack

  after_steps-steps_of_elements : (ds : Elements) (more : List Step) (stack : List JsonValue) → after_steps (steps_of_elements ds more) stack ≡ after_steps more (list ds ∷ stack)
  after_steps-steps_of_elements no_elements more stack = refl
  after_steps-steps_of_elements (element d ds) more stack =
      after_steps-steps_of_elements ds (steps d (put_element ∷ more)) stack
      ∙ after_steps-steps d (put_element ∷ more) (list ds ∷ stack)

  after_steps-steps_of_members : (ms : Members) (more : List Step) (stack : List JsonValue) → after_steps (steps_of_members ms more) stack ≡ after_steps more (object ms ∷ stack)
  after_steps-steps_of_members no_members more stack = refl
  after_steps-steps_of_members (member k d ms) more stack =
      after_steps-steps_of_members ms (steps d (put_member k ∷ more)) stack
      ∙ after_steps-steps d (put_member k ∷ more) (object ms ∷ stack)

pub top-built : (d : JsonValue) → top (after_steps (steps d []) []) ≡ d
top-built d = ap top (after_steps-steps d [] [])

abbrev pub value_code : Coded JsonValue
value_code = code_by (List Step) (coded_list step_code) (λ d. steps d []) (λ ss. top (after_steps ss [])) top-built
