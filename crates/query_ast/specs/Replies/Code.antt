-- Codes for answers and buckets: the steps that build answers on a stack.
use Rattle.std.specs.Prelude.{◌≡◌, ◌⊎◌, ℕ, ℤ, Bool, true, false, List, [], ◌∷◌, Option, None, refl}
use Rattle.std.proofs.Common.{◌∙◌, ap}
use Rattle.std.specs.Coded.{Coded, code_by, coded×, coded⊎, coded_ℕ, coded_ℤ, coded_bool, coded_list, coded_option}
use mathlib.Core.Logic.{inl, inr}
use Rattle.tree_objects.specs.declared.field_value.FieldValue.{FieldValue}
use Rattle.tree_objects.specs.contracts.field_value.FieldValue as field_value
use Rattle.query_ast.specs.Replies.{Replies, no_replies, with_reply, ReplyValue, single, several, metric, Buckets, no_buckets, with_bucket, ReplyPart, BucketPart}

abbrev bytes_code : Coded (List ℕ)
bytes_code = coded_list coded_ℕ

-- ---- steps: no answers (false) or no buckets (true) on top; a metric on top; the answers on top made the one bucket of
-- a count; the buckets on top made an answer; the answers on top given to a bucket before the buckets below; the answer on
-- top given a name before the answers below. What is no list of answers stands on the stack as one answer without a name.

abbrev Step : Type 0
Step = Bool ⊎ (Option ℤ ⊎ (ℕ ⊎ (ℕ ⊎ ((FieldValue × ℕ) ⊎ List ℕ))))

abbrev step_code : Coded Step
step_code =
    coded⊎ coded_bool
    (coded⊎ (coded_option coded_ℤ) (coded⊎ coded_ℕ (coded⊎ coded_ℕ (coded⊎ (coded× field_value.the_row.coded coded_ℕ) bytes_code))))

abbrev standing : ReplyValue → Replies
standing value = with_reply [] value no_replies

abbrev standing_value : Replies → ReplyValue
standing_value no_replies = metric None
standing_value (with_reply name value rest) = value

abbrev buckets_in : ReplyValue → Buckets
buckets_in (single count inner) = no_buckets
buckets_in (several buckets other) = buckets
buckets_in (metric number) = no_buckets

abbrev standing_buckets : Buckets → Replies
standing_buckets buckets = standing (several buckets 0)

abbrev push_replies : Step
push_replies = inl false

abbrev push_buckets : Step
push_buckets = inl true

abbrev push_metric : Option ℤ → Step
push_metric number = inr (inl number)

abbrev make_single : ℕ → Step
make_single count = inr (inr (inl count))

abbrev make_several : ℕ → Step
make_several other = inr (inr (inr (inl other)))

abbrev put_bucket : FieldValue → ℕ → Step
put_bucket key count = inr (inr (inr (inr (inl (key, count)))))

abbrev put_reply : List ℕ → Step
put_reply name = inr (inr (inr (inr (inr name))))

abbrev mutual
  steps : Replies → List Step → List Step
  steps no_replies more = push_replies ∷ more
  steps (with_reply name value rest) more = steps rest (steps_of_value value (put_reply name ∷ more))

  steps_of_value : ReplyValue → List Step → List Step
  steps_of_value (single count inner) more = steps inner (make_single count ∷ more)
  steps_of_value (several buckets other) more = steps_of_buckets buckets (make_several other ∷ more)
  steps_of_value (metric number) more = push_metric number ∷ more

  steps_of_buckets : Buckets → List Step → List Step
  steps_of_buckets no_buckets more = push_buckets ∷ more
  steps_of_buckets (with_bucket key count inner rest) more = steps_of_buckets rest (steps inner (put_bucket key count ∷ more))

abbrev with_single : ℕ → List Replies → List Replies
with_single count [] = []
with_single count (a ∷ stack) = standing (single count a) ∷ stack

abbrev with_several : ℕ → List Replies → List Replies
with_several other [] = []
with_several other (a ∷ stack) = standing (several (buckets_in (standing_value a)) other) ∷ stack

abbrev with_bucket_on : FieldValue → ℕ → List Replies → List Replies
with_bucket_on key count [] = []
with_bucket_on key count (a ∷ []) = []
with_bucket_on key count (a ∷ b ∷ stack) = standing_buckets (with_bucket key count a (buckets_in (standing_value b))) ∷ stack

abbrev with_reply_on : List ℕ → List Replies → List Replies
with_reply_on name [] = []
with_reply_on name (a ∷ []) = []
with_reply_on name (a ∷ b ∷ stack) = with_reply name (standing_value a) b ∷ stack

abbrev after_step : Step → List Replies → List Replies
after_step (inl false) stack = no_replies ∷ stack
after_step (inl true) stack = standing_buckets no_buckets ∷ stack
after_step (inr (inl number)) stack = standing (metric number) ∷ stack
after_step (inr (inr (inl count))) stack = with_single count stack
after_step (inr (inr (inr (inl other)))) stack = with_several other stack
after_step (inr (inr (inr (inr (inl bucket))))) stack = with_bucket_on bucket.0 bucket.1 stack
after_step (inr (inr (inr (inr (inr name))))) stack = with_reply_on name stack

abbrev after_steps : List Step → List Replies → List Replies
after_steps [] stack = stack
after_steps (s ∷ more) stack = after_steps more (after_step s stack)

abbrev top : List Replies → Replies
top [] = no_replies
top (rs ∷ stack) = rs

mutual
  after_steps-steps : (rs : Replies) (more : List Step) (stack : List Replies) → after_steps (steps rs more) stack ≡ after_steps more (rs ∷ stack)
  after_steps-steps no_replies more stack = refl
  after_steps-steps (with_reply name value rest) more stack =
      after_steps-steps rest (steps_of_value value (put_reply name ∷ more)) stack
      ∙ after_steps-steps_of_value value (put_reply name ∷ more) (rest ∷ stack)

  after_steps-steps_of_value : (v : ReplyValue) (more : List Step) (stack : List Replies) → after_steps (steps_of_value v more) stack ≡ after_steps more (standing v ∷ stack)
  after_steps-steps_of_value (single count inner) more stack = after_steps-steps inner (make_single count ∷ more) stack
  after_steps-steps_of_value (several buckets other) more stack = after_steps-steps_of_buckets buckets (make_several other ∷ more) stack
  after_steps-steps_of_value (metric number) more stack = refl

  after_steps-steps_of_buckets : (bs : Buckets) (more : List Step) (stack : List Replies) → after_steps (steps_of_buckets bs more) stack ≡ after_steps more (standing_buckets bs ∷ stack)
  after_steps-steps_of_buckets no_buckets more stack = refl
  after_steps-steps_of_buckets (with_bucket key count inner rest) more stack =
      after_steps-steps_of_buckets rest (steps inner (put_bucket key count ∷ more)) stack
      ∙ after_steps-steps inner (put_bucket key count ∷ more) (standing_buckets rest ∷ stack)

pub top-built : (rs : Replies) → top (after_steps (steps rs []) []) ≡ rs
top-built rs = ap top (after_steps-steps rs [] [])

abbrev replies_code : Coded Replies
replies_code = code_by (List Step) (coded_list step_code) (λ rs. steps rs []) (λ ss. top (after_steps ss [])) top-built

abbrev value_code : Coded ReplyValue
value_code = code_by Replies replies_code standing standing_value (λ _. refl)

abbrev pub reply_code : Coded ReplyPart
reply_code =
    code_by (List ℕ × ReplyValue) (coded× bytes_code value_code)
    (λ r. (r.name, r.value)) (λ p. record { name = p.0; value = p.1 }) (λ _. refl)

abbrev pub bucket_code : Coded BucketPart
bucket_code =
    code_by (FieldValue × (ℕ × Replies)) (coded× field_value.the_row.coded (coded× coded_ℕ replies_code))
    (λ b. (b.key, (b.count, b.inner))) (λ p. record { key = p.0; count = p.1.0; inner = p.1.1 }) (λ _. refl)
