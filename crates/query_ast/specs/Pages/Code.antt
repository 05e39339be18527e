-- Codes for pages and inner hits: the steps that build pages on a stack.
use Rattle.std.specs.Prelude.{◌≡◌, ◌⊎◌, ℕ, Bool, true, false, List, [], ◌∷◌, Option, refl}
use Rattle.std.proofs.Common.{◌∙◌, ap}
use Rattle.std.specs.Coded.{Coded, code_by, coded×, coded⊎, coded_ℕ, coded_bool, coded_list, coded_option}
use mathlib.Core.Logic.{inl, inr}
use Rattle.query_ast.specs.Pages.{InnerHead, Pages, no_pages, with_page, Hits, no_hits, with_hit, PagePart, HitPart}
use Rattle.query_ast.specs.declared.hit.Level.{Level}
use Rattle.query_ast.specs.contracts.hit.Level as level

abbrev bytes_code : Coded (List ℕ)
bytes_code = coded_list coded_ℕ

abbrev head_code : Coded InnerHead
head_code =
    code_by (List ℕ × (List Level × (ℕ × Option (List ℕ))))
    (coded× bytes_code (coded× (coded_list level.the_row.coded) (coded× coded_ℕ (coded_option bytes_code))))
    (λ h. (h.id, (h.levels, (h.score, h.source))))
    (λ p. record { id = p.0; levels = p.1.0; score = p.1.1.0; source = p.1.1.1 }) (λ _. refl)

-- ---- steps: no pages (false) or no hits (true) on top; the hits on top made a page before the pages below; the pages on
-- top given to a hit before the hits below. Hits stand on the stack as one page of them.

abbrev Step : Type 0
Step = Bool ⊎ ((List ℕ × ℕ) ⊎ InnerHead)

abbrev step_code : Coded Step
step_code = coded⊎ coded_bool (coded⊎ (coded× bytes_code coded_ℕ) head_code)

abbrev standing : Hits → Pages
standing hits = with_page [] hits 0 no_pages

abbrev standing_hits : Pages → Hits
standing_hits no_pages = no_hits
standing_hits (with_page name hits total rest) = hits

abbrev push_pages : Step
push_pages = inl false

abbrev push_hits : Step
push_hits = inl true

abbrev put_page : List ℕ → ℕ → Step
put_page name total = inr (inl (name, total))

abbrev put_hit : InnerHead → Step
put_hit head = inr (inr head)

abbrev mutual
  steps : Pages → List Step → List Step
  steps no_pages more = push_pages ∷ more
  steps (with_page name hits total rest) more = steps rest (steps_of hits (put_page name total ∷ more))

  steps_of : Hits → List Step → List Step
  steps_of no_hits more = push_hits ∷ more
  steps_of (with_hit head pages rest) more = steps_of rest (steps pages (put_hit head ∷ more))

abbrev with_page_on : List ℕ → ℕ → List Pages → List Pages
with_page_on name total [] = []
with_page_on name total (a ∷ []) = []
with_page_on name total (a ∷ b ∷ stack) = with_page name (standing_hits a) total b ∷ stack

abbrev with_hit_on : InnerHead → List Pages → List Pages
with_hit_on head [] = []
with_hit_on head (a ∷ []) = []
with_hit_on head (a ∷ b ∷ stack) = standing (with_hit head a (standing_hits b)) ∷ stack

abbrev after_step : Step → List Pages → List Pages
after_step (inl false) stack = no_pages ∷ stack
after_step (inl true) stack = standing no_hits ∷ stack
after_step (inr (inl page)) stack = with_page_on page.0 page.1 stack
after_step (inr (inr head)) stack = with_hit_on head stack

abbrev after_steps : List Step → List Pages → List Pages
after_steps [] stack = stack
after_steps (s ∷ more) stack = after_steps more (after_step s stack)

abbrev top : List Pages → Pages
top [] = no_pages
top (ps ∷ stack) = ps

mutual
  after_steps-steps : (ps : Pages) (more : List Step) (stack : List Pages) → after_steps (steps ps more) stack ≡ after_steps more (ps ∷ stack)
  after_steps-steps no_pages more stack = refl
  after_steps-steps (with_page name hits total rest) more stack =
      after_steps-steps rest (steps_of hits (put_page name total ∷ more)) stack
      ∙ after_steps-steps_of hits (put_page name total ∷ more) (rest ∷ stack)

  after_steps-steps_of : (hits : Hits) (more : List Step) (stack : List Pages) → after_steps (steps_of hits more) stack ≡ after_steps more (standing hits ∷ stack)
  after_steps-steps_of no_hits more stack = refl
  after_steps-steps_of (with_hit head pages rest) more stack =
      after_steps-steps_of rest (steps pages (put_hit head ∷ more)) stack
      ∙ after_steps-steps pages (put_hit head ∷ more) (standing rest ∷ stack)

pub top-built : (ps : Pages) → top (after_steps (steps ps []) []) ≡ ps
top-built ps = ap top (after_steps-steps ps [] [])

abbrev pages_code : Coded Pages
pages_code = code_by (List Step) (coded_list step_code) (λ ps. steps ps []) (λ ss. top (after_steps ss [])) top-built

abbrev hits_code : Coded Hits
hits_code = code_by Pages pages_code standing standing_hits (λ _. refl)

abbrev pub page_code : Coded PagePart
page_code =
    code_by (List ℕ × (Hits × ℕ)) (coded× bytes_code (coded× hits_code coded_ℕ))
    (λ p. (p.name, (p.hits, p.total))) (λ p. record { name = p.0; hits = p.1.0; total = p.1.1 }) (λ _. refl)

abbrev pub hit_code : Coded HitPart
hit_code =
    code_by (InnerHead × Pages) (coded× head_code pages_code)
    (λ h. (h.head, h.inner)) (λ p. record { head = p.0; inner = p.1 }) (λ _. refl)
