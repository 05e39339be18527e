-- A term has one ordinal, and a number stands at that of its key.
use Rattle.std.proofs.Common.{◌≡◌, ◌↔◌, inl, inr, ℕ, ◌<◌, Bool, false, IsTrue, List, [], get_or, slice_get, Some, Contains, sym, ap, subst, ◌∙◌, arith}
use Rattle.std.specs.Prelude.{ℤ}
use Rattle.std.specs.declared.cmp.Ordering.TheVariants.{Less, Equal}
use Rattle.std.proofs.lemmas.Bool.{cases_lt, false≢true}
use Rattle.std.proofs.lemmas.Cmp.{tied_itself}
use Rattle.std.proofs.lemmas.Map.Keys.{Less-from_sorted}
use Rattle.std.proofs.lemmas.Option.{slice_get_within, get_or_from_slice_get}
use Rattle.postings.specs.Postings.{documents}
use Rattle.term_table.specs.Terms.{term_cmp, AreAscending}
use Rattle.term_table.specs.Laws.{term_cmp_total}
use Rattle.term_table.specs.Keys.{number_key}
use Rattle.segment_parts.specs.Agree.{IsKeyed}

less_not_itself : (term : ℕ × List ℕ) → term_cmp term term ≡ Less → ⊥
less_not_itself term less = let no : Less ≡ Equal = sym less ∙ tied_itself term_cmp_total term in cc

-- of two places the term at the earlier one comes before the other
in_order : (terms : List (ℕ × List ℕ)) (place later : ℕ) (term : ℕ × List ℕ) → AreAscending terms → slice_get terms place ≡ Some term → slice_get terms later ≡ Some term → place < later → ⊥
in_order terms place later term ascend at at_later earlier =
    less_not_itself term (
    sym (ap (λ first. term_cmp first term) (get_or_from_slice_get terms place term term at))
    ∙ sym (ap (term_cmp (get_or terms place term)) (get_or_from_slice_get terms later term term at_later))
    ∙ Less-from_sorted term_cmp terms place later term ascend earlier (slice_get_within terms later term at_later))

-- a term has one ordinal
pub one_ordinal : (terms : List (ℕ × List ℕ)) (one other : ℕ) (term : ℕ × List ℕ) → AreAscending terms → slice_get terms one ≡ Some term → slice_get terms other ≡ Some term → one ≡ other
one_ordinal terms one other term ascend at there =
    elim (cases_lt one other) [
      | inl less ↦ absurd (in_order terms one other term ascend at there less)
      | inr from ↦ elim (cases_lt other one) [
        | inl less ↦ absurd (in_order terms other one term ascend there at less)
        | inr upto ↦ omega arith
      ]
    ]

pub keyed_at : (terms : List (ℕ × List ℕ)) (postings : List (List (ℕ × List ℕ))) (field doc : ℕ) (number : ℤ) (ordinal : ℕ) (test : Bool) → AreAscending terms → slice_get terms ordinal ≡ Some (field, number_key number) → (IsTrue test ↔ Contains (documents (get_or postings ordinal [])) doc) → IsTrue test ↔ IsKeyed terms postings field doc number
keyed_at terms postings field doc number ordinal test ascend is posted = (
  λ holds. record { ordinal = ordinal; is = is; posted = posted.0 holds },
  λ keyed. posted.1 (subst (λ k. Contains (documents (get_or postings k [])) doc) (one_ordinal terms keyed.ordinal ordinal (field, number_key number) ascend keyed.is is) keyed.posted),
)

pub keyed_nowhere : (terms : List (ℕ × List ℕ)) (postings : List (List (ℕ × List ℕ))) (field doc : ℕ) (number : ℤ) → (Contains terms (field, number_key number) → ⊥) → IsTrue false ↔ IsKeyed terms postings field doc number
keyed_nowhere terms postings field doc number never = (
  λ no. absurd (false≢true no),
  λ keyed. absurd (never (keyed.ordinal, slice_get_within terms keyed.ordinal (field, number_key number) keyed.is, get_or_from_slice_get terms keyed.ordinal (field, number_key number) (field, number_key number) keyed.is)),
)
