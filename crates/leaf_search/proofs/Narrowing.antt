-- A set of documents from which some are taken, one by one.
use Rattle.std.proofs.Common.{◌≡◌, ℕ, zero, suc, ◌+◌, ◌-◌, ◌<◌, ◌≤◌, Bool, true, false, ◌&&◌, List, [], ◌∷◌, length, get_or, set, drop, Some, None, refl, sym, ap, ◌∙◌, inl, inr, arith}
use Rattle.std.specs.List.{position_from}
use Rattle.std.proofs.lemmas.Bool.{and_parts, cases_lt}
use Rattle.std.proofs.lemmas.List.{get_or-drop, get_or-set_other, get_or-set_same, length-set, set-get_or}
use Rattle.std.proofs.lemmas.Option.{none-some, same_Some}
use Rattle.block_bits.specs.Flags.{is_marked}
use Rattle.block_bits.specs.Places.{next_place}
use Rattle.leaf_search.specs.Sets.{Marks}

-- those before an index that don't pass are taken out
pub record AreNarrowed (documents : ℕ) (keep test : ℕ → Bool) (at : ℕ) (marks : List Bool) : Type 0 where
  pub long : length marks ≡ documents
  pub done : (doc : ℕ) → doc < at → doc < documents → get_or marks doc false ≡ (keep doc && test doc)
  pub left : (doc : ℕ) → at ≤ doc → doc < documents → get_or marks doc false ≡ keep doc

pub narrowed_none : (documents : ℕ) (keep test : ℕ → Bool) (marks : List Bool) → Marks documents keep marks → AreNarrowed documents keep test 0 marks
narrowed_none documents keep test marks has = record {
  long = has.long;
  done = λ doc before. absurd (omega (arith, before));
  left = λ doc from inside. has.marked doc inside;
}

-- a document of the set is looked at
pub narrowed_more : (documents : ℕ) (keep test : ℕ → Bool) (at : ℕ) (marks new : List Bool) (passes : Bool) → AreNarrowed documents keep test at marks → at < length marks → get_or marks at false ≡ true → passes ≡ test at → new ≡ set marks at passes
    → AreNarrowed documents keep test (at + 1) new
narrowed_more documents keep test at marks new passes was within has says made =
    let inside : at < documents = omega (arith, within, was.long) in
    record {
      long = ap length made ∙ length-set marks at passes ∙ was.long;
      done = λ doc before below. elim (cases_lt doc at) [
        | inl less ↦ ap (λ (l : List Bool). get_or l doc false) made ∙ get_or-set_other marks at doc passes false (λ same. omega (arith, same, less)) ∙ was.done doc less below
        | inr more ↦
            let end : doc ≡ at = omega (arith, before, more) in
            ap (λ (k : ℕ). get_or new k false) end
            ∙ ap (λ (l : List Bool). get_or l at false) made
            ∙ get_or-set_same marks at passes false within
            ∙ says
            ∙ ap (λ (b : Bool). b && test at) (sym has ∙ was.left at (omega arith) inside)
            ∙ ap (λ (k : ℕ). keep k && test k) (sym end)
      ];
      left = λ doc from below.
          ap (λ (l : List Bool). get_or l doc false) made ∙ get_or-set_other marks at doc passes false (λ same. omega (arith, same, from)) ∙ was.left doc (omega (arith, from)) below;
    }

pub same_with : (marks : List Bool) (at : ℕ) (passes : Bool) → get_or marks at false ≡ true → passes ≡ true → marks ≡ set marks at passes
same_with marks at passes has says = sym (ap (λ (b : Bool). set marks at b) (says ∙ sym has) ∙ set-get_or marks at false)

-- ---- the documents in between are none of the set

first_from : (start : ℕ) (marks : List Bool) (at : ℕ) → position_from is_marked start marks ≡ Some at → (start ≤ at) × ((k : ℕ) → start + k < at → get_or marks k false ≡ false) × (get_or marks (at - start) false ≡ true)
first_from start [] at is = absurd (none-some at is)
first_from start (true ∷ marks) at is =
    let same : start ≡ at = same_Some start at is in
    let here : at - start ≡ 0 = omega (arith, same) in
    (omega (arith, same), λ k low. absurd (omega (arith, low, same)), ap (λ (i : ℕ). get_or (true ∷ marks) i false) here)
first_from start (false ∷ marks) at is =
    let rest = first_from (start + 1) marks at is in
    let there : at - start ≡ suc (at - (start + 1)) = omega (arith, rest.0) in
    (omega (arith, rest.0), later rest.1, ap (λ (i : ℕ). get_or (false ∷ marks) i false) there ∙ rest.2)
  where
    later : ((k : ℕ) → start + 1 + k < at → get_or marks k false ≡ false) → (k : ℕ) → start + k < at → get_or (false ∷ marks) k false ≡ false
    later none zero low = refl
    later none (suc k) low = none k (omega (arith, low))

none_from : (start : ℕ) (marks : List Bool) → position_from is_marked start marks ≡ None → (k : ℕ) → get_or marks k false ≡ false
none_from start [] is k = refl
none_from start (true ∷ marks) is k = absurd (none-some start (sym is))
none_from start (false ∷ marks) is zero = refl
none_from start (false ∷ marks) is (suc k) = none_from (start + 1) marks is k

at_from : (marks : List Bool) (from k : ℕ) → from ≤ k → get_or (drop from marks) (k - from) false ≡ get_or marks k false
at_from marks from k low =
    let same : from + (k - from) ≡ k = omega (arith, low) in
    get_or-drop from marks (k - from) false ∙ ap (λ (i : ℕ). get_or marks i false) same

-- the next document of the set
pub record IsNext (marks : List Bool) (from at : ℕ) : Type 0 where
  pub low : from ≤ at
  pub none : (k : ℕ) → from ≤ k → k < at → get_or marks k false ≡ false
  pub has : get_or marks at false ≡ true

pub is_next : (marks : List Bool) (from at : ℕ) → next_place is_marked from marks ≡ Some at → IsNext marks from at
is_next marks from at is =
    let first = first_from from (drop from marks) at is in
    record {
      low = first.0;
      none = λ k low before. sym (at_from marks from k low) ∙ first.1 (k - from) (omega (arith, low, before));
      has = sym (at_from marks from at first.0) ∙ first.2;
    }

pub narrowed_to : (documents : ℕ) (keep test : ℕ → Bool) (from at : ℕ) (marks : List Bool) → AreNarrowed documents keep test from marks → IsNext marks from at → AreNarrowed documents keep test at marks
narrowed_to documents keep test from at marks was next = record {
  long = was.long;
  done = λ doc before below. elim (cases_lt doc from) [
    | inl less ↦ was.done doc less below
    | inr more ↦
        let unset : get_or marks doc false ≡ false = next.none doc (omega (arith, more)) before in
        unset ∙ ap (λ (b : Bool). b && test doc) (sym unset ∙ was.left doc (omega (arith, more)) below)
  ];
  left = λ doc above below. was.left doc (omega (arith, above, next.low)) below;
}

pub narrowed_end : (documents : ℕ) (keep test : ℕ → Bool) (from : ℕ) (marks : List Bool) → AreNarrowed documents keep test from marks → next_place is_marked from marks ≡ None → AreNarrowed documents keep test documents marks
narrowed_end documents keep test from marks was is = record {
  long = was.long;
  done = λ doc before below. elim (cases_lt doc from) [
    | inl less ↦ was.done doc less below
    | inr more ↦
        let low : from ≤ doc = omega (arith, more) in
        let unset : get_or marks doc false ≡ false = sym (at_from marks from doc low) ∙ none_from from (drop from marks) is (doc - from) in
        unset ∙ ap (λ (b : Bool). b && test doc) (sym unset ∙ was.left doc low below)
  ];
  left = λ doc above below. absurd (omega (arith, above, below));
}

-- where what passes has what the set asked for
pub narrowed_all : (documents at : ℕ) (lives scope : List Bool) (all test : ℕ → Bool) (marks : List Bool) → AreNarrowed documents (λ doc. get_or lives doc false && (get_or scope doc false && all doc)) test at marks → documents ≤ at
    → ((doc : ℕ) → test doc ≡ true → all doc ≡ true) → Marks documents (λ doc. get_or lives doc false && (get_or scope doc false && test doc)) marks
narrowed_all documents at lives scope all test marks was past means = record {
  long = was.long;
  marked = λ doc inside.
      was.done doc (omega (arith, inside, past)) inside ∙ both (get_or lives doc false) (get_or scope doc false) (all doc) (test doc) (means doc);
}
  where
    both : (a b c d : Bool) → (d ≡ true → c ≡ true) → ((a && (b && c)) && d) ≡ (a && (b && d))
    both false b c d means = refl
    both true false c d means = refl
    both true true true d means = refl
    both true true false true means = means refl
    both true true false false means = refl

-- a document of the set has what the set asked for
pub asked_for : (lives scope : List Bool) (all : ℕ → Bool) (doc : ℕ) (has : Bool) → has ≡ (get_or lives doc false && (get_or scope doc false && all doc)) → has ≡ true → all doc ≡ true
asked_for lives scope all doc has is says =
    let outer = and_parts (get_or lives doc false) (get_or scope doc false && all doc) (sym is ∙ says) in
    (and_parts (get_or scope doc false) (all doc) outer.1).1
