-- The terms of a document's keywords and numbers ascend, each once.
use Rattle.std.proofs.Common.{◌≡◌, ℕ, ℤ, suc, ◌+◌, Bool, true, false, List, [], ◌∷◌, ◌++◌, map, get_or, refl, sym, ap, subst, ◌∙◌, arith, FitsSigned, w64}
use Rattle.std.specs.Cmp.{IsTotalOrder, IsStrictWeakOrder}
use Rattle.std.specs.Cmp.Lexicographic.{slice_cmp}
use Rattle.std.specs.List.{AllByRecursion, list_any}
use Rattle.std.specs.List.Sorted.{IsSorted, IsStrictlySortedBy}
use Rattle.std.specs.Ordering.{is_lt, is_gt, is_eq, int_cmp, nat_cmp, ordering_reverse}
use Rattle.std.specs.Str.{bytes_eq}
use Rattle.std.specs.declared.cmp.Ordering.{Ordering}
use Rattle.std.specs.declared.cmp.Ordering.TheVariants.{Less, Equal, Greater}
use Rattle.std.proofs.lemmas.Cmp.{eq_by_cmp_equiv, nat_list_cmp_total}
use Rattle.std.proofs.lemmas.List.Elements.{recursion_from_All}
use Rattle.std.proofs.lemmas.List.Sorted.{ranks_by, sorted_far}
use Rattle.std.proofs.lemmas.Map.Text.{is_eq-slice_cmp}
use Rattle.term_table.specs.Keys.{number_key}
use Rattle.term_table.specs.Terms.{term_cmp}
use Rattle.segment_builder.specs.Groups.{keys}
use Rattle.segment_builder.specs.Parts.{tagged}
use Rattle.segment_builder.specs.Terms.{terms_at, once_after, once, keyword_terms, number_terms}
use Rattle.segment_builder.proofs.Among.{each_both_sides}
use Rattle.segment_builder.proofs.InOrder.{each_then}
use Rattle.segment_builder.proofs.Keys.{split}
use Rattle.segment_builder.proofs.Sorted.{sorted_append, less_then, same_field}
use Rattle.segment_builder.proofs.Orders.{bytes_exact}
use Rattle.segment_builder.proofs.Written.{bytes_order}

-- ---- lists in order, one by one

module _ {K : Type 0} (cmp : K → K → Ordering) where
  abbrev pub UpList : List K → Type 0
  UpList [] = Unit {0}
  UpList (x ∷ xs) = AllByRecursion (λ y. is_gt (cmp x y) ≡ false) xs × UpList xs

pub gt_back : (a b : Ordering) → b ≡ ordering_reverse a → is_lt b ≡ is_gt a
gt_back Less b e = rw e refl
gt_back Equal b e = rw e refl
gt_back Greater b e = rw e refl

module _ {K : Type 0} (cmp : K → K → Ordering) (o : IsTotalOrder cmp) where
  weak : IsStrictWeakOrder (λ (a b : K). is_lt (cmp a b))
  weak = ranks_by o (λ x. x)

  pub up_list : (xs : List K) → IsSorted cmp xs → UpList cmp xs
  up_list [] up = tt
  up_list (x ∷ xs) up = (
    recursion_from_All (λ y. is_gt (cmp x y) ≡ false) xs
        (λ k d h.
        let far : is_lt (cmp (get_or xs k d) x) ≡ false = sorted_far (λ a b. is_lt (cmp a b)) weak (x ∷ xs) up 0 (suc k) d (omega arith) (omega (arith, h)) in
        sym (gt_back (cmp x (get_or xs k d)) (cmp (get_or xs k d) x) (o.antisymm (get_or xs k d) x)) ∙ far),
    up_list xs (λ k d low high.
        let next : suc k + 1 ≡ suc (k + 1) = omega arith in
        rw next at (up (suc k) d (omega arith) (omega (arith, high)))),
  )

-- ---- each value once

pub same_bytes : (a b : List ℕ) → bytes_eq a b ≡ true → a ≡ b
same_bytes a b is = bytes_exact a b (equal_from (slice_cmp nat_cmp a b) (is_eq-slice_cmp a b ∙ is))
  where
    equal_from : (x : Ordering) → is_eq x ≡ true → x ≡ Equal
    equal_from Less h = absurd (cc (h))
    equal_from Equal h = refl
    equal_from Greater h = absurd (cc (h))

further : (last value : List ℕ) (values : List (List ℕ)) → bytes_order last value ≡ Less → AllByRecursion (λ v. bytes_order value v ≡ Less) values → AllByRecursion (λ v. bytes_order last v ≡ Less) values
further last value values less all = each_then (λ v. bytes_order value v ≡ Less) (λ v. bytes_order last v ≡ Less) (λ v next. nat_list_cmp_total.trans last value v less next) values all

once_after_up : (last : List ℕ) (values : List (List ℕ)) → AllByRecursion (λ v. is_gt (bytes_order last v) ≡ false) values → UpList bytes_order values → IsStrictlySortedBy bytes_order (last ∷ once_after last values)
unfolding IsStrictlySortedBy
once_after_up last [] all up = (tt, tt)
once_after_up last (value ∷ values) all up =
    let rest : IsStrictlySortedBy bytes_order (value ∷ once_after value values) = once_after_up value values up.0 up.1 in
    split (bytes_eq value last)
    (λ is. rw is (subst (λ w. IsStrictlySortedBy bytes_order (w ∷ once_after value values)) (same_bytes value last is) rest))
    (λ isnt.
    let apart : is_eq (bytes_order last value) ≡ false = (eq_by_cmp_equiv nat_list_cmp_total).symm last value ∙ is_eq-slice_cmp value last ∙ isnt in
    let less : bytes_order last value ≡ Less = less_then (bytes_order last value) Less all.0 apart in
    rw isnt ((less, further last value (once_after value values) less rest.0), rest))

pub once_up : (values : List (List ℕ)) → UpList bytes_order values → IsStrictlySortedBy bytes_order (once values)
unfolding IsStrictlySortedBy
once_up [] up = tt
once_up (value ∷ values) up = once_after_up value values up.0 up.1

-- ---- as terms

at_field : (field : ℕ) (word : List ℕ) (words : List (List ℕ)) (doc : ℕ) → AllByRecursion (λ w. bytes_order word w ≡ Less) words → AllByRecursion (λ (term : ℕ × List ℕ). term_cmp (field, word) term ≡ Less) (keys (terms_at field doc words))
at_field field word [] doc all = tt
at_field field word (w ∷ ws) doc all = (rw (same_field field) all.0, at_field field word ws doc all.1)

terms_up : (field doc : ℕ) (words : List (List ℕ)) → IsStrictlySortedBy bytes_order words → IsStrictlySortedBy term_cmp (keys (terms_at field doc words))
unfolding IsStrictlySortedBy
terms_up field doc [] up = tt
terms_up field doc (word ∷ words) up = (at_field field word words doc up.0, terms_up field doc words up.1)

terms_of_field : (field doc : ℕ) (words : List (List ℕ)) → AllByRecursion (λ (term : ℕ × List ℕ). term.0 ≡ field) (keys (terms_at field doc words))
terms_of_field field doc [] = tt
terms_of_field field doc (word ∷ words) = (refl, terms_of_field field doc words)

key_append : {Y : Type 0} (xs ys : List ((ℕ × List ℕ) × Y)) → keys (xs ++ ys) ≡ keys xs ++ keys ys
key_append [] ys = refl
key_append (x ∷ xs) ys = ap (λ rest. x.0 ∷ rest) (key_append xs ys)

of_fields : (P : ℕ → Type 0) (field : ℕ) (terms : List (ℕ × List ℕ)) → P field → AllByRecursion (λ (term : ℕ × List ℕ). term.0 ≡ field) terms → AllByRecursion (λ (term : ℕ × List ℕ). P term.0) terms
of_fields P field [] here all = tt
of_fields P field (term ∷ terms) here all = (subst P (sym all.0) here, of_fields P field terms here all.1)

keyword_fields : (P : ℕ → Type 0) (doc : ℕ) (entries : List (ℕ × List (List ℕ))) → AllByRecursion P (keys entries) → AllByRecursion (λ (term : ℕ × List ℕ). P term.0) (keys (keyword_terms (tagged doc entries)))
keyword_fields P doc [] all = tt
keyword_fields P doc (entry ∷ entries) all =
    subst (AllByRecursion (λ (term : ℕ × List ℕ). P term.0)) (sym (key_append (terms_at entry.0 doc (once entry.1)) (keyword_terms (tagged doc entries))))
    (each_both_sides (λ (term : ℕ × List ℕ). P term.0) (keys (terms_at entry.0 doc (once entry.1))) (keys (keyword_terms (tagged doc entries))) (of_fields P entry.0 (keys (terms_at entry.0 doc (once entry.1))) all.0 (terms_of_field entry.0 doc (once entry.1))) (keyword_fields P doc entries all.1))

pub keyword_terms_up : (doc : ℕ) (entries : List (ℕ × List (List ℕ))) → IsStrictlySortedBy nat_cmp (keys entries) → AllByRecursion (λ (entry : ℕ × List (List ℕ)). UpList bytes_order entry.1) entries → IsStrictlySortedBy term_cmp (keys (keyword_terms (tagged doc entries)))
unfolding IsStrictlySortedBy
keyword_terms_up doc [] up all = tt
keyword_terms_up doc (entry ∷ entries) up all =
    subst (IsStrictlySortedBy term_cmp) (sym (key_append (terms_at entry.0 doc (once entry.1)) (keyword_terms (tagged doc entries))))
    (sorted_append entry.0 (keys (terms_at entry.0 doc (once entry.1))) (keys (keyword_terms (tagged doc entries))) (terms_up entry.0 doc (once entry.1) (once_up entry.1 all.0)) (terms_of_field entry.0 doc (once entry.1)) (keyword_terms_up doc entries up.1 all.1)
    (keyword_fields (λ f. nat_cmp entry.0 f ≡ Less) doc entries up.0))

number_fields : (P : ℕ → Type 0) (doc : ℕ) (entries : List (ℕ × List ℤ)) → AllByRecursion P (keys entries) → AllByRecursion (λ (term : ℕ × List ℕ). P term.0) (keys (number_terms (tagged doc entries)))
number_fields P doc [] all = tt
number_fields P doc (entry ∷ entries) all =
    let here = once (map number_key entry.1) in
    subst (AllByRecursion (λ (term : ℕ × List ℕ). P term.0)) (sym (key_append (terms_at entry.0 doc here) (number_terms (tagged doc entries))))
    (each_both_sides (λ (term : ℕ × List ℕ). P term.0) (keys (terms_at entry.0 doc here)) (keys (number_terms (tagged doc entries))) (of_fields P entry.0 (keys (terms_at entry.0 doc here)) all.0 (terms_of_field entry.0 doc here)) (number_fields P doc entries all.1))

pub number_terms_up : (doc : ℕ) (entries : List (ℕ × List ℤ)) → IsStrictlySortedBy nat_cmp (keys entries) → AllByRecursion (λ (entry : ℕ × List ℤ). UpList bytes_order (map number_key entry.1)) entries → IsStrictlySortedBy term_cmp (keys (number_terms (tagged doc entries)))
unfolding IsStrictlySortedBy
number_terms_up doc [] up all = tt
number_terms_up doc (entry ∷ entries) up all =
    let here = once (map number_key entry.1) in
    subst (IsStrictlySortedBy term_cmp) (sym (key_append (terms_at entry.0 doc here) (number_terms (tagged doc entries))))
    (sorted_append entry.0 (keys (terms_at entry.0 doc here)) (keys (number_terms (tagged doc entries))) (terms_up entry.0 doc here (once_up (map number_key entry.1) all.0)) (terms_of_field entry.0 doc here) (number_terms_up doc entries up.1 all.1)
    (number_fields (λ f. nat_cmp entry.0 f ≡ Less) doc entries up.0))

-- ---- the keys of numbers in order are in order

abbrev pub KeysAreOrdered : Type 0
KeysAreOrdered = (one other : ℤ) → FitsSigned w64 one → FitsSigned w64 other → slice_cmp nat_cmp (number_key one) (number_key other) ≡ int_cmp one other

keys_after : KeysAreOrdered → (number : ℤ) (numbers : List ℤ) → FitsSigned w64 number → AllByRecursion (FitsSigned w64) numbers → AllByRecursion (λ n. is_gt (int_cmp number n) ≡ false) numbers → AllByRecursion (λ k. is_gt (bytes_order (number_key number) k) ≡ false) (map number_key numbers)
keys_after law number [] fits fit all = tt
keys_after law number (n ∷ ns) fits fit all = (ap is_gt (law number n fits fit.0) ∙ all.0, keys_after law number ns fits fit.1 all.1)

pub keys_up : KeysAreOrdered → (numbers : List ℤ) → AllByRecursion (FitsSigned w64) numbers → UpList int_cmp numbers → UpList bytes_order (map number_key numbers)
keys_up law [] fit up = tt
keys_up law (n ∷ ns) fit up = (keys_after law n ns fit.0 fit.1 up.0, keys_up law ns fit.1 up.1)

-- ---- a value that stands there stands there once

bytes_itself : (a : List ℕ) → bytes_eq a a ≡ true
bytes_itself a = sym (is_eq-slice_cmp a a) ∙ (eq_by_cmp_equiv nat_list_cmp_total).refl a

one_more : (test : List ℕ → Bool) (first : List ℕ) (rest : List (List ℕ)) → list_any test rest ≡ true → list_any test (first ∷ rest) ≡ true
one_more test first rest is =
    split (test first)
    (λ passes. rw passes refl)
    (λ fails. rw fails is)

kept_after : (last : List ℕ) (values : List (List ℕ)) → AllByRecursion (λ v. list_any (bytes_eq v) (last ∷ once_after last values) ≡ true) values
kept_after last [] = tt
kept_after last (value ∷ values) =
    split (bytes_eq value last)
    (λ is.
    let same : value ≡ last = same_bytes value last is in
    let rest : once_after last (value ∷ values) ≡ once_after value values = rw is refl in
    let first : list_any (bytes_eq value) (last ∷ once_after last (value ∷ values)) ≡ true = rw is refl in (
      first,
      subst (λ ws. AllByRecursion (λ v. list_any (bytes_eq v) (last ∷ ws) ≡ true) values) (sym rest)
          (subst (λ w. AllByRecursion (λ v. list_any (bytes_eq v) (w ∷ once_after value values) ≡ true) values) same (kept_after value values)),
    ))
    (λ isnt.
    let rest : once_after last (value ∷ values) ≡ value ∷ once_after value values = rw isnt refl in
    let there : list_any (bytes_eq value) (value ∷ once_after value values) ≡ true = rw (bytes_itself value) refl in (
      subst (λ ws. list_any (bytes_eq value) (last ∷ ws) ≡ true) (sym rest) (one_more (bytes_eq value) last (value ∷ once_after value values) there),
      subst (λ ws. AllByRecursion (λ v. list_any (bytes_eq v) (last ∷ ws) ≡ true) values) (sym rest)
          (each_then (λ v. list_any (bytes_eq v) (value ∷ once_after value values) ≡ true) (λ v. list_any (bytes_eq v) (last ∷ value ∷ once_after value values) ≡ true) (λ v more. one_more (bytes_eq v) last (value ∷ once_after value values) more) values (kept_after value values)),
    ))

pub kept_once : (values : List (List ℕ)) → AllByRecursion (λ v. list_any (bytes_eq v) (once values) ≡ true) values
kept_once [] = tt
kept_once (value ∷ values) = (rw (bytes_itself value) refl, kept_after value values)

-- and what stands there once stands there
pub once_after_in : (P : List ℕ → Type 0) (last : List ℕ) (values : List (List ℕ)) → AllByRecursion P values → AllByRecursion P (once_after last values)
once_after_in P last [] all = tt
once_after_in P last (value ∷ values) all =
    split (bytes_eq value last)
    (λ is. rw is (once_after_in P value values all.1))
    (λ isnt. rw isnt (all.0, once_after_in P value values all.1))

pub once_in : (P : List ℕ → Type 0) (values : List (List ℕ)) → AllByRecursion P values → AllByRecursion P (once values)
once_in P [] all = tt
once_in P (value ∷ values) all = (all.0, once_after_in P value values all.1)
