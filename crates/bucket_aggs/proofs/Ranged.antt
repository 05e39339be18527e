-- The terms of a field among those of a segment: they stand together, since terms stand by field.
use Rattle.std.proofs.Common.{◌≡◌, ℕ, ◌+◌, ◌<◌, ◌≤◌, ◌==◌, true, false, nat_lt, List, [], length, get_or, Some, slice_get, refl, sym, ◌∙◌, ap, subst, arith, inl, inr}
use Rattle.std.specs.Ordering.{nat_cmp, ordering_then}
use Rattle.std.specs.declared.cmp.Ordering.TheVariants.{Less, Greater}
use Rattle.std.specs.Cmp.Lexicographic.{slice_cmp}
use Rattle.std.proofs.lemmas.Bool.{cases_lt, eq-eqb, eqb-true}
use Rattle.std.proofs.lemmas.Bool.Decides.{nat_tests}
use Rattle.std.proofs.lemmas.Cmp.{by_ranked, ranked}
use Rattle.std.proofs.lemmas.Map.Keys.{Less-from_sorted}
use Rattle.std.proofs.lemmas.Option.{get_or_from_slice_get, same_Some, slice_get-get_or, slice_get_within}
use Rattle.term_table.specs.Ranges.{IsRange, is_of_field}
use Rattle.term_table.specs.Terms.{AreAscending, term_cmp}
use Rattle.bucket_aggs.proofs.Termed.{TermList}

-- a term before another has no greater field
less_field : (one other : ℕ × List ℕ) → term_cmp one other ≡ Less → one.0 ≤ other.0
less_field one other less =
    by_ranked (one.0 < other.0) (one.0 ≡ other.0) (other.0 < one.0) (nat_cmp one.0 other.0) (ranked one.0 other.0 _ refl)
    (λ is smaller. omega (arith, smaller))
    (λ is same. omega (arith, same))
    (λ is greater. let no : Greater ≡ Less = subst (λ r. ordering_then r (slice_cmp nat_cmp one.1 other.1) ≡ Less) is less in cc)

fields_ascend : (terms : TermList) (k later : ℕ) (one other : ℕ × List ℕ) → AreAscending terms → slice_get terms k ≡ Some one → slice_get terms later ≡ Some other → k ≤ later → one.0 ≤ other.0
fields_ascend terms k later one other up at there order =
    elim (cases_lt k later) [
      | inl earlier ↦
          let inside : later < length terms = slice_get_within terms later other there in
          let less : term_cmp (get_or terms k one) (get_or terms later one) ≡ Less = Less-from_sorted term_cmp terms k later one up earlier inside in
          less_field one other
          (sym (ap (λ first. term_cmp first other) (get_or_from_slice_get terms k one one at)) ∙ sym (ap (λ second. term_cmp (get_or terms k one) second) (get_or_from_slice_get terms later other one there)) ∙ less)
      | inr beyond ↦
          let place : k ≡ later = omega (arith, order, beyond) in
          let same : one ≡ other = same_Some one other (sym at ∙ ap (slice_get terms) place ∙ there) in
          omega (arith, ap (λ (t : ℕ × List ℕ). t.0) same)
    ]

-- where a search for the terms of fields below a bound stands
pub record Halved (terms : TermList) (bound low high : ℕ) : Type 0 where
  pub ordered : low ≤ high
  pub within : high ≤ length terms
  pub below : (k : ℕ) (term : ℕ × List ℕ) → slice_get terms k ≡ Some term → k < low → term.0 < bound
  pub past : (k : ℕ) (term : ℕ × List ℕ) → slice_get terms k ≡ Some term → high ≤ k → bound ≤ term.0

pub halved_at_start : (terms : TermList) (bound high : ℕ) → high ≡ length terms → Halved terms bound 0 high
halved_at_start terms bound high is = record {
  ordered = omega arith;
  within = omega (arith, is);
  below = λ k term at under. absurd (omega (arith, under));
  past = λ k term at beyond. absurd (omega (arith, beyond, is, slice_get_within terms k term at));
}

pub halved_above : (terms : TermList) (bound low at high : ℕ) → Halved terms bound low high → AreAscending terms → at < high → ((term : ℕ × List ℕ) → slice_get terms at ≡ Some term → nat_lt term.0 bound ≡ true) → Halved terms bound (at + 1) high
halved_above terms bound low at high was up inside here = record {
  ordered = omega (arith, inside);
  within = was.within;
  below = λ k term is under.
      let own : ℕ × List ℕ = get_or terms at term in
      let there : slice_get terms at ≡ Some own = slice_get-get_or terms at term (omega (arith, inside, was.within)) in
      let less : nat_lt own.0 bound ≡ true = here own there in
      let upto : term.0 ≤ own.0 = fields_ascend terms k at term own up is there (omega (arith, under)) in
      grind (arith, nat_tests, less, upto);
  past = was.past;
}

pub halved_below : (terms : TermList) (bound low at high : ℕ) → Halved terms bound low high → AreAscending terms → low ≤ at → at < high → ((term : ℕ × List ℕ) → slice_get terms at ≡ Some term → nat_lt term.0 bound ≡ false) → Halved terms bound low at
halved_below terms bound low at high was up above inside here = record {
  ordered = above;
  within = omega (arith, inside, was.within);
  below = was.below;
  past = λ k term is beyond.
      let own : ℕ × List ℕ = get_or terms at term in
      let there : slice_get terms at ≡ Some own = slice_get-get_or terms at term (omega (arith, inside, was.within)) in
      let more : nat_lt own.0 bound ≡ false = here own there in
      let upto : own.0 ≤ term.0 = fields_ascend terms at k own term up there is beyond in
      grind (arith, nat_tests, more, upto);
}

-- the terms below a field and those up to it part the list at the field's own
abbrev pub IsCut : TermList → ℕ → ℕ → Type 0
IsCut terms bound cut =
    ((k : ℕ) (term : ℕ × List ℕ) → slice_get terms k ≡ Some term → k < cut → term.0 < bound)
    × ((k : ℕ) (term : ℕ × List ℕ) → slice_get terms k ≡ Some term → cut ≤ k → bound ≤ term.0)

pub cuts_ordered : (terms : TermList) (field first end : ℕ) → first ≤ length terms → IsCut terms field first → IsCut terms (field + 1) end → first ≤ end
cuts_ordered terms field first end within one other =
    elim (cases_lt end first) [
      | inl earlier ↦
          let there : slice_get terms end ≡ Some (get_or terms end (0, [])) = slice_get-get_or terms end (0, []) (omega (arith, earlier, within)) in
          omega (arith, one.0 end (get_or terms end (0, [])) there earlier, other.1 end (get_or terms end (0, [])) there (omega arith))
      | inr later ↦ later
    ]

pub cuts_range : (terms : TermList) (field first end : ℕ) → IsCut terms field first → IsCut terms (field + 1) end → IsRange (is_of_field field) terms first end
cuts_range terms field first end one other ordinal term at = (inside, back)
  where
    inside : (first ≤ ordinal) × (ordinal < end) → (term.0 == field) ≡ true
    inside lies = eq-eqb term.0 field (omega (arith, one.1 ordinal term at lies.0, other.0 ordinal term at lies.1))

    back : (term.0 == field) ≡ true → (first ≤ ordinal) × (ordinal < end)
    back held =
        let same : term.0 ≡ field = eqb-true term.0 field held in (
          elim (cases_lt ordinal first) [ inl under ↦ absurd (omega (arith, same, one.0 ordinal term at under)) | inr from ↦ from ],
          elim (cases_lt ordinal end) [ inl under ↦ under | inr from ↦ absurd (omega (arith, same, other.1 ordinal term at from)) ],
        )
