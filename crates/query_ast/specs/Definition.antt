-- Definitions that hold definitions, as those of inner hits and of buckets do. What a definition says but for those
-- inside it is an `A`.
use Rattle.std.specs.Prelude.{◌≡◌, ℕ, ◌+◌, List, [], ◌∷◌, Option, Some, None, refl}
use Rattle.std.proofs.Common.{◌∙◌, ap}
use Rattle.std.specs.Coded.{Coded, code_by, coded_list, coded_option}

mutual
  pub data Definition (A : Type 0) : Type 0 where
    definition : A → Definitions A → Definition A

  pub data Definitions (A : Type 0) : Type 0 where
    no_definitions : Definitions A
    with_definition : Definition A → Definitions A → Definitions A

module _ {A : Type 0} where
  abbrev pub definitions_of : List (Definition A) → Definitions A
  definitions_of [] = no_definitions
  definitions_of (d ∷ ds) = with_definition d (definitions_of ds)

  -- how many definitions there are: what the limit of a search counts, and a measure for recursions
  abbrev mutual
    pub definition_size : Definition A → ℕ
    definition_size (definition a ds) = 1 + definitions_size ds

    pub definitions_size : Definitions A → ℕ
    definitions_size no_definitions = 0
    definitions_size (with_definition d ds) = definition_size d + definitions_size ds

  -- ---- a code: the steps that build a definition on a stack, which are a definition that holds none yet, or the one on top
  -- put first into the one below it

  abbrev mutual
    steps : Definition A → List (Option A) → List (Option A)
    steps (definition a ds) more = Some a ∷ steps_in ds more

    steps_in : Definitions A → List (Option A) → List (Option A)
    steps_in no_definitions more = more
    steps_in (with_definition d ds) more = steps_in ds (steps d (None ∷ more))

  abbrev holding : Definition A → Definition A → Definition A
  holding d (definition a ds) = definition a (with_definition d ds)

  abbrev with_first : List (Definition A) → List (Definition A)
  with_first [] = []
  with_first (d ∷ []) = []
  with_first (d ∷ below ∷ stack) = holding d below ∷ stack

  abbrev after_step : Option A → List (Definition A) → List (Definition A)
  after_step None stack = with_first stack
  after_step (Some a) stack = definition a no_definitions ∷ stack

  abbrev after_steps : List (Option A) → List (Definition A) → List (Definition A)
  after_steps [] stack = stack
  after_steps (s ∷ more) stack = after_steps more (after_step s stack)

  mutual
    after_steps-steps : (d : Definition A) (more : List (Option A)) (stack : List (Definition A)) → after_steps (steps d more) stack ≡ after_steps more (d ∷ stack)
    after_steps-steps (definition a ds) more stack = after_steps-steps_in a ds more stack

    after_steps-steps_in : (a : A) (ds : Definitions A) (more : List (Option A)) (stack : List (Definition A)) → after_steps (steps_in ds more) (definition a no_definitions ∷ stack) ≡ after_steps more (definition a ds ∷ stack)
    after_steps-steps_in a no_definitions more stack = refl
    after_steps-steps_in a (with_definition d ds) more stack =
        after_steps-steps_in a ds (steps d (None ∷ more)) stack ∙ after_steps-steps d (None ∷ more) (definition a ds ∷ stack)

  abbrev top : A → List (Definition A) → Definition A
  top a [] = definition a no_definitions
  top a (d ∷ stack) = d

  pub top-built : (a : A) (d : Definition A) → top a (after_steps (steps d []) []) ≡ d
  top-built a d = ap (top a) (after_steps-steps d [] [])

  -- any value of A is taken for steps that build nothing
  abbrev pub definition_code : A → Coded A → Coded (Definition A)
  definition_code a c = code_by (List (Option A)) (coded_list (coded_option c)) (λ d. steps d []) (λ ss. top a (after_steps ss [])) (top-built a)
