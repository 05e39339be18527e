-- Fields of words, keywords and numbers, put in order by field.
use Rattle.std.proofs.Common.{◌≡◌, ℕ, suc, ◌+◌, ◌≤◌, Bool, true, false, cond, List, [], ◌∷◌, ◌++◌, length, map, refl, sym, ap, subst, ◌∙◌, arith}
use Rattle.std.specs.Cmp.Lexicographic.{slice_cmp}
use Rattle.std.specs.List.{AllByRecursion, flat_map}
use Rattle.std.specs.List.Sorted.{IsStrictlySortedBy}
use Rattle.std.specs.Ordering.{eq_by_cmp, is_gt, nat_cmp}
use Rattle.std.specs.declared.cmp.Ordering.TheVariants.{Less}
use Rattle.term_table.specs.Terms.{term_cmp}
use Rattle.segment_builder.specs.Groups.{in_groups, keys, of_key, AreGroups, AreRising}
use Rattle.segment_builder.specs.Regrouped.{key_as}
use Rattle.segment_builder.specs.Terms.{at_field, field_entries, fields_in, row_group, rows_in, AreAllRising}
use Rattle.segment_builder.specs.declared.rows.FieldTerms.{FieldTerms}
use Rattle.segment_builder.proofs.Fielded.{rows_grouped, Entry, Fields, Terms}
use Rattle.segment_builder.proofs.Keys.{split}
use Rattle.segment_builder.proofs.Orders.{nat_exact}
use Rattle.segment_builder.proofs.Ranked.{equal_from}
use Rattle.segment_builder.proofs.Sorted.{less_then, same_field, sorted_cons, sorted_first, sorted_none, sorted_rest}

-- ---- a list of fields by what stands at each of them

-- what groups have at a field, from the groups of the field
in_of : (f : ℕ) (fields : Fields) → in_groups nat_cmp f fields ≡ flat_map (λ (entries : List Entry). entries) (of_key nat_cmp f fields)
in_of f [] = refl
in_of f (field ∷ fields) =
    split (eq_by_cmp nat_cmp f field.0)
    (λ is. rw (is, in_of f fields) refl)
    (λ isnt. rw (isnt, in_of f fields) refl)

module _ {P : Type 0} where
  each_to : (Q : P → Type 0) (fields : List (ℕ × P)) → AllByRecursion (λ (field : ℕ × P). Q field.1) fields → (f : ℕ) → AllByRecursion Q (of_key nat_cmp f fields)
  each_to Q [] all f = tt
  each_to Q (field ∷ fields) all f =
      split (eq_by_cmp nat_cmp f field.0)
      (λ is. rw is (all.0, each_to Q fields all.1 f))
      (λ isnt. rw isnt (each_to Q fields all.1 f))

  each_from : (Q : P → Type 0) (fields : List (ℕ × P)) → ((f : ℕ) → AllByRecursion Q (of_key nat_cmp f fields)) → AllByRecursion (λ (field : ℕ × P). Q field.1) fields
  each_from Q [] all = tt
  each_from Q (field ∷ fields) all =
      let own : AllByRecursion Q (field.1 ∷ of_key nat_cmp field.0 fields) = rw (same_field field.0) at (all field.0) in
      (own.0, each_from Q fields (λ f. behind f (all f)))
    where
      behind : (f : ℕ) → AllByRecursion Q (of_key nat_cmp f (field ∷ fields)) → AllByRecursion Q (of_key nat_cmp f fields)
      behind f here =
          split (eq_by_cmp nat_cmp f field.0)
          (λ is. (rw is at here).1)
          (λ isnt. rw isnt at here)

  -- fields that rise, and of which each stands there once, ascend
  all_less : (f : ℕ) (fields : List (ℕ × P)) → AllByRecursion (λ (later : ℕ × P). is_gt (nat_cmp f later.0) ≡ false) fields → length (of_key nat_cmp f fields) ≡ 0 → AllByRecursion (λ other. nat_cmp f other ≡ Less) (keys fields)
  all_less f [] all none = tt
  all_less f (field ∷ fields) all none =
      split (eq_by_cmp nat_cmp f field.0)
      (λ is. absurd (omega (arith, rw is at none)))
      (λ isnt. (less_then (nat_cmp f field.0) (nat_cmp f field.0) all.0 isnt, all_less f fields all.1 (rw isnt at none)))

  ascend : (fields : List (ℕ × P)) → AreRising nat_cmp fields → ((f : ℕ) → length (of_key nat_cmp f fields) ≤ 1) → IsStrictlySortedBy nat_cmp (keys fields)
  ascend [] rising once = sorted_none nat_cmp
  ascend (field ∷ fields) rising once =
      let here : length (field.1 ∷ of_key nat_cmp field.0 fields) ≤ 1 = rw (same_field field.0) at (once field.0) in
      sorted_cons nat_cmp field.0 (keys fields) (all_less field.0 fields rising.0 (omega (arith, here))) (ascend fields rising.1 (λ f. behind f (once f)))
    where
      behind : (f : ℕ) → length (of_key nat_cmp f (field ∷ fields)) ≤ 1 → length (of_key nat_cmp f fields) ≤ 1
      behind f here =
          split (eq_by_cmp nat_cmp f field.0)
          (λ is. omega (arith, rw is at here))
          (λ isnt. rw isnt at here)

-- ---- how often a field stands among fields

abbrev pub times : ℕ → List ℕ → ℕ
times f [] = 0
times f (field ∷ fields) = cond (eq_by_cmp nat_cmp f field) (suc (times f fields)) (times f fields)

times_of : {P : Type 0} (f : ℕ) (fields : List (ℕ × P)) → length (of_key nat_cmp f fields) ≡ times f (keys fields)
times_of f [] = refl
times_of f (field ∷ fields) =
    split (eq_by_cmp nat_cmp f field.0)
    (λ is. rw is (ap suc (times_of f fields)))
    (λ isnt. rw isnt (times_of f fields))

pub times_both : (f : ℕ) (xs ys : List ℕ) → times f (xs ++ ys) ≡ times f xs + times f ys
times_both f [] ys = omega arith
times_both f (x ∷ xs) ys =
    split (eq_by_cmp nat_cmp f x)
    (λ is. rw is (omega (arith, times_both f xs ys)))
    (λ isnt. rw isnt (times_both f xs ys))

pub times_none : (test : ℕ → Bool) (f : ℕ) (fields : List ℕ) → AllByRecursion (λ field. test field ≡ true) fields → test f ≡ false → times f fields ≡ 0
times_none test f [] all isnt = refl
times_none test f (field ∷ fields) all isnt =
    split (eq_by_cmp nat_cmp f field)
    (λ is. absurd (
    let same : f ≡ field = nat_exact f field (equal_from (nat_cmp f field) is) in
    let never : true ≡ false = sym all.0 ∙ ap test (sym same) ∙ isnt in cc (never)))
    (λ other. rw other (times_none test f fields all.1 isnt))

none_less : (f : ℕ) (fields : List ℕ) → AllByRecursion (λ other. nat_cmp f other ≡ Less) fields → times f fields ≡ 0
none_less f [] all = refl
none_less f (field ∷ fields) all = rw all.0 (none_less f fields all.1)

pub times_once : (f : ℕ) (fields : List ℕ) → IsStrictlySortedBy nat_cmp fields → times f fields ≤ 1
times_once f [] up = omega arith
times_once f (field ∷ fields) up =
    split (eq_by_cmp nat_cmp f field)
    (λ is.
    let same : f ≡ field = nat_exact f field (equal_from (nat_cmp f field) is) in
    let none : times f fields ≡ 0 = none_less f fields (rw same (sorted_first nat_cmp field fields up)) in
    rw (is, none) (omega arith))
    (λ isnt. rw isnt (times_once f fields (sorted_rest nat_cmp field fields up)))

-- ---- fields as they are seen

rising_later : (f : ℕ) (fields : List (ℕ × FieldTerms)) → AllByRecursion (λ (later : ℕ × FieldTerms). is_gt (nat_cmp f later.0) ≡ false) fields → AllByRecursion (λ (later : ℕ × List Entry). is_gt (nat_cmp f later.0) ≡ false) (fields_in fields)
rising_later f [] all = tt
rising_later f (field ∷ fields) all = (all.0, rising_later f fields all.1)

rising_in : (fields : List (ℕ × FieldTerms)) → AreRising nat_cmp fields → AreRising nat_cmp (fields_in fields)
rising_in [] up = tt
rising_in (field ∷ fields) up = (rising_later field.0 fields up.0, rising_in fields up.1)

-- the rows of fields, put in order by field, are the groups of their terms
module _ (terms : Terms) (old new : List (ℕ × FieldTerms)) (carry : (f : ℕ) (b : List ℕ) → at_field f b (fields_in old) ≡ of_key term_cmp (f, b) terms) (once : (f : ℕ) → times f (keys (fields_in old)) ≤ 1) (all : AreAllRising (fields_in old))
    (same : (f : ℕ) → of_key nat_cmp f new ≡ of_key nat_cmp f old) (rising : AreRising nat_cmp new) where
  at_each : (f : ℕ) → of_key nat_cmp f (fields_in new) ≡ of_key nat_cmp f (fields_in old)
  at_each f =
      key_as nat_cmp nat_cmp (λ (field : ℕ). field) field_entries (λ a b. refl) f new
      ∙ ap (map field_entries) (same f)
      ∙ sym (key_as nat_cmp nat_cmp (λ (field : ℕ). field) field_entries (λ a b. refl) f old)

  carry_on : (f : ℕ) (b : List ℕ) → at_field f b (fields_in new) ≡ of_key term_cmp (f, b) terms
  carry_on f b =
      ap (of_key (slice_cmp nat_cmp) b) (in_of f (fields_in new) ∙ ap (flat_map (λ (entries : List Entry). entries)) (at_each f) ∙ sym (in_of f (fields_in old)))
      ∙ carry f b

  once_on : (f : ℕ) → length (of_key nat_cmp f (fields_in new)) ≤ 1
  once_on f = rw (at_each f) (omega (arith, once f, times_of f (fields_in old)))

  each : (f : ℕ) → AllByRecursion (AreRising (slice_cmp nat_cmp)) (of_key nat_cmp f (fields_in new))
  each f = subst (AllByRecursion (AreRising (slice_cmp nat_cmp))) (sym (at_each f)) (each_to (AreRising (slice_cmp nat_cmp)) (fields_in old) all f)

  pub rows_mixed : AreGroups term_cmp terms (map row_group (rows_in new))
  rows_mixed = rows_grouped terms (fields_in new) carry_on (ascend (fields_in new) (rising_in new rising) once_on) (each_from (AreRising (slice_cmp nat_cmp)) (fields_in new) each)
