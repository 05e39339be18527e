-- What a block's documents carry comes in order.
use Rattle.std.proofs.Common.{◌≡◌, ℕ, ℤ, zero, suc, ◌+◌, ◌<◌, ◌==◌, Contains, eq-eqb, Bool, true, false, List, [], ◌∷◌, ◌++◌, length, map, get_or, nat_lt, refl, sym, ap, subst, ◌∙◌, arith, lt-ltb, length-append}
use Rattle.std.specs.Cmp.{IsTotalOrder}
use Rattle.std.specs.Cmp.Lexicographic.{slice_cmp}
use Rattle.std.specs.List.{All, AllByRecursion, filter, flat_map, list_any, range_with_len}
use Rattle.std.specs.List.Sorted.{IsSorted}
use Rattle.std.specs.Ordering.{is_lt, is_gt, is_eq, ordering_reverse, ordering_then, int_cmp, nat_cmp}
use Rattle.std.specs.Str.{bytes_eq}
use Rattle.std.specs.declared.cmp.Ordering.{Ordering}
use Rattle.std.specs.declared.cmp.Ordering.TheVariants.{Less, Equal, Greater}
use Rattle.std.proofs.lemmas.Cmp.{upto, int_cmp_total, nat_cmp_total, nat_list_cmp_total, on_total, then_total, eq_by_cmp_equiv}
use Rattle.std.proofs.lemmas.List.FromFn.{get_or-range_with_len, length-range_with_len}
use Rattle.std.proofs.lemmas.Bool.Decides.{nat_tests}
use Rattle.std.proofs.lemmas.List.Elements.{All-cons}
use Rattle.std.proofs.lemmas.Map.Keys.{sorted_from_strictly_increasing}
use Rattle.std.proofs.lemmas.Map.Text.{is_eq-slice_cmp}
use Rattle.flattener.specs.Block.{BlockState, flats_of_tree}
use Rattle.flattener.specs.Fits.{BlockFits}
use Rattle.flattener.specs.Flat.{placed, ascending, bytes_cmp, token_cmp, tokens, together, grouped, words_of_field, number_field, keyword_field, text_field, field_words, fields_of, numbers_in, texts_in, has_numbers, is_keyword, is_text, flat_of}
use Rattle.mapping.specs.Mapping.{Mapping, kind_at}
use Rattle.mapping_body.specs.declared.kind.Kind.{Kind}
use Rattle.segment.specs.Flat.{has_some}
use Rattle.term_table.specs.Terms.{term_cmp}
use Rattle.tree_objects.specs.Object.{Object, block_objects}
use Rattle.tree_objects.specs.Values.{values}
use Rattle.segment_builder.specs.Form.{IsOrdered}
use Rattle.segment_builder.proofs.Among.{any_later, any_number}
use Rattle.segment_builder.proofs.Keys.{split}
use Rattle.segment_builder.proofs.Merged.{keys}
use Rattle.segment_builder.proofs.Onced.{gt_back}
use Rattle.segment_builder.proofs.Orders.{bytes_exact}
use Rattle.segment_builder.proofs.Placed.{AreUp, Rise, words_rise}
use Rattle.segment_builder.proofs.Shown.{each_by, each_then}
use Rattle.segment_builder.proofs.Sorted.{Sorted, sorted_cons, sorted_first, sorted_rest, sorted_none, sorted_append, each_append, less_then, same_field}

-- ---- lists in order

each_filter : {X : Type 0} (P : X → Type 0) (test : X → Bool) (xs : List X) → AllByRecursion P xs → AllByRecursion P (filter test xs)
each_filter P test [] all = tt
each_filter P test (x ∷ xs) all =
    split (test x)
    (λ is. rw is (all.0, each_filter P test xs all.1))
    (λ isnt. rw isnt (each_filter P test xs all.1))

sorted_filter : {K : Type 0} (cmp : K → K → Ordering) (test : K → Bool) (xs : List K) → Sorted cmp xs → Sorted cmp (filter test xs)
sorted_filter cmp test [] up = up
sorted_filter cmp test (x ∷ xs) up =
    let rest : Sorted cmp (filter test xs) = sorted_filter cmp test xs (sorted_rest cmp x xs up) in
    split (test x)
    (λ is. rw is (sorted_cons cmp x (filter test xs) (each_filter (λ y. cmp x y ≡ Less) test xs (sorted_first cmp x xs up)) rest))
    (λ isnt. rw isnt rest)

sorted_range : (n : ℕ) → Sorted nat_cmp (range_with_len 0 n)
sorted_range n =
    sorted_from_strictly_increasing (range_with_len 0 n)
    (λ k h.
    let one : get_or (range_with_len 0 n) k 0 ≡ 0 + k = get_or-range_with_len 0 n k 0 (omega (arith, h, length-range_with_len 0 n)) in
    let two : get_or (range_with_len 0 n) (k + 1) 0 ≡ 0 + (k + 1) = get_or-range_with_len 0 n (k + 1) 0 (omega (arith, h, length-range_with_len 0 n)) in
    omega (arith, one, two))

fields_ascend : (test : Kind → Bool) (m : Mapping) → Sorted nat_cmp (fields_of test m)
fields_ascend test m = sorted_filter nat_cmp (λ f. test (kind_at m f)) (range_with_len 0 (length m.fields)) (sorted_range (length m.fields))

-- ---- fields with what they carry

module _ {X : Type 0} (get : ℕ → List X) where
  abbrev carried : List ℕ → List (ℕ × List X)
  carried fs = filter has_some (map (λ f. (f, get f)) fs)

  each_carried : (P : ℕ → Type 0) (fs : List ℕ) → AllByRecursion P fs → AllByRecursion P (keys (carried fs))
  each_carried P [] all = tt
  each_carried P (f ∷ fs) all =
      split (has_some (f, get f))
      (λ is. rw is (all.0, each_carried P fs all.1))
      (λ isnt. rw isnt (each_carried P fs all.1))

  carried_ascend : (fs : List ℕ) → Sorted nat_cmp fs → Sorted nat_cmp (keys (carried fs))
  carried_ascend [] up = up
  carried_ascend (f ∷ fs) up =
      let rest : Sorted nat_cmp (keys (carried fs)) = carried_ascend fs (sorted_rest nat_cmp f fs up) in
      split (has_some (f, get f))
      (λ is. rw is (sorted_cons nat_cmp f (keys (carried fs)) (each_carried (λ y. nat_cmp f y ≡ Less) fs (sorted_first nat_cmp f fs up)) rest))
      (λ isnt. rw isnt rest)

  carried_some : (fs : List ℕ) → AllByRecursion (λ (entry : ℕ × List X). has_some entry ≡ true) (carried fs)
  carried_some [] = tt
  carried_some (f ∷ fs) =
      split (has_some (f, get f))
      (λ is. rw is (is, carried_some fs))
      (λ isnt. rw isnt (carried_some fs))

  carried_all : (P : List X → Type 0) → ((f : ℕ) → P (get f)) → (fs : List ℕ) → AllByRecursion (λ (entry : ℕ × List X). P entry.1) (carried fs)
  carried_all P all [] = tt
  carried_all P all (f ∷ fs) =
      split (has_some (f, get f))
      (λ is. rw is (all f, carried_all P all fs))
      (λ isnt. rw isnt (carried_all P all fs))

-- ---- a sort's list is in order

turned : (a b : Ordering) → a ≡ ordering_reverse b → is_gt b ≡ true → is_gt a ≡ false
turned a Less e h = absurd (cc (h))
turned a Equal e h = absurd (cc (h))
turned a Greater e h = rw e refl

module _ {K : Type 0} (R : K → K → Ordering) (o : IsTotalOrder R) where
  abbrev Below : K → List K → Type 0
  Below x ys = AllByRecursion (λ y. is_gt (R x y) ≡ false) ys

  abbrev Up : List K → Type 0
  Up [] = Unit {0}
  Up (x ∷ xs) = Below x xs × Up xs

  below_further : (x y : K) (ys : List K) → is_gt (R x y) ≡ false → Below y ys → Below x ys
  below_further x y [] h b = tt
  below_further x y (z ∷ zs) h b = (upto o x y z h b.0, below_further x y zs h b.1)

  below_placed : (x new : K) (xs : List K) → is_gt (R x new) ≡ false → Below x xs → Below x (placed R new xs)
  below_placed x new [] h b = (h, tt)
  below_placed x new (y ∷ ys) h b =
      split (is_gt (R new y))
      (λ after. rw after (b.0, below_placed x new ys h b.1))
      (λ before. rw before (h, b))

  up_placed : (new : K) (xs : List K) → Up xs → Up (placed R new xs)
  up_placed new [] up = (tt, tt)
  up_placed new (y ∷ ys) up =
      split (is_gt (R new y))
      (λ after. rw after (below_placed y new ys (turned (R y new) (R new y) (o.antisymm y new) after) up.0, up_placed new ys up.1))
      (λ before. rw before ((before, below_further new y ys before up.0), up))

  up_ascending : (xs : List K) → Up (ascending R xs)
  up_ascending [] = tt
  up_ascending (x ∷ xs) = up_placed x (ascending R xs) (up_ascending xs)

  up_at : (xs : List K) (k : ℕ) (d : K) → Up xs → suc k < length xs → is_lt (R (get_or xs (suc k) d) (get_or xs k d)) ≡ false
  up_at [] k d up inside = absurd (omega (arith, inside))
  up_at (x ∷ []) k d up inside = absurd (omega (arith, inside))
  up_at (x ∷ y ∷ ys) zero d up inside = gt_back (R x y) (R y x) (o.antisymm y x) ∙ up.0.0
  up_at (x ∷ y ∷ ys) (suc k) d up inside = up_at (y ∷ ys) k d up.1 (omega (arith, inside))

  sorted_ascending : (xs : List K) → IsSorted R (ascending R xs)
  sorted_ascending xs = λ k d low high.
      let next : k + 1 ≡ suc k = omega arith in
      rw next (up_at (ascending R xs) k d (up_ascending xs) (omega (arith, high)))

-- ---- words of one field

then_not : (a b : Ordering) → is_gt (ordering_then a b) ≡ false → is_gt a ≡ false
then_not Less b h = refl
then_not Equal b h = refl
then_not Greater b h = h

abbrev IsAfter : List ℕ → List (List ℕ × ℕ) → Type 0
IsAfter word ts = AllByRecursion (λ (t : List ℕ × ℕ). is_gt (bytes_cmp word t.0) ≡ false) ts

abbrev UpWords : List (List ℕ × ℕ) → Type 0
UpWords [] = Unit {0}
UpWords (t ∷ ts) = IsAfter t.0 ts × UpWords ts

token_total : IsTotalOrder token_cmp
token_total = then_total (on_total (λ (t : List ℕ × ℕ). t.0) nat_list_cmp_total) (on_total (λ (t : List ℕ × ℕ). t.1) nat_cmp_total)

words_after : (t : List ℕ × ℕ) (ts : List (List ℕ × ℕ)) → Below token_cmp token_total t ts → IsAfter t.0 ts
words_after t [] below = tt
words_after t (next ∷ ts) below = (then_not (bytes_cmp t.0 next.0) (nat_cmp t.1 next.1) below.0, words_after t ts below.1)

by_words : (ts : List (List ℕ × ℕ)) → Up token_cmp token_total ts → UpWords ts
by_words [] up = tt
by_words (t ∷ ts) up = (words_after t ts up.0, by_words ts up.1)

-- terms of a field whose words don't come before one
abbrev AtLeast : ℕ → List ℕ → List (ℕ × List ℕ) → Type 0
AtLeast f word terms = AllByRecursion (λ (term : ℕ × List ℕ). (term.0 ≡ f) × (is_gt (bytes_cmp word term.1) ≡ false)) terms

abbrev Words : Type 0
Words = List ((ℕ × List ℕ) × List ℕ)

not_after_itself : (word : List ℕ) → is_gt (bytes_cmp word word) ≡ false
not_after_itself word =
    split (is_gt (bytes_cmp word word))
    (λ after. turned (bytes_cmp word word) (bytes_cmp word word) (nat_list_cmp_total.antisymm word word) after)
    (λ before. before)

case_of : {C : Type 0} (a : Ordering) → is_gt a ≡ false → (a ≡ Less → C) → (a ≡ Equal → C) → C
case_of Less h less equal = less refl
case_of Equal h less equal = equal refl
case_of Greater h less equal = absurd (cc (h))

less_on : (x y z : List ℕ) → bytes_cmp x y ≡ Less → is_gt (bytes_cmp y z) ≡ false → bytes_cmp x z ≡ Less
less_on x y z less on =
    case_of (bytes_cmp y z) on
    (λ next. nat_list_cmp_total.trans x y z less next)
    (λ same. subst (λ w. bytes_cmp x w ≡ Less) (bytes_exact y z same) less)

-- a word before another, and so before all that don't come before that
term_before : (f : ℕ) (word next : List ℕ) (terms : List (ℕ × List ℕ)) → bytes_cmp word next ≡ Less → AtLeast f next terms → AllByRecursion (λ term. term_cmp (f, word) term ≡ Less) terms
term_before f word next [] less all = tt
term_before f word next (term ∷ terms) less all =
    let field : nat_cmp f term.0 ≡ Equal = ap (nat_cmp f) all.0.0 ∙ same_field f in
    (rw field (less_on word next term.1 less all.0.1), term_before f word next terms less all.1)

at_least_on : (f : ℕ) (word next : List ℕ) (terms : List (ℕ × List ℕ)) → bytes_cmp word next ≡ Less → AtLeast f next terms → AtLeast f word terms
at_least_on f word next [] less all = tt
at_least_on f word next (term ∷ terms) less all =
    ((all.0.0, ap is_gt (less_on word next term.1 less all.0.1)), at_least_on f word next terms less all.1)

some_more : {X : Type 0} (xs : List X) (x : X) → nat_lt 0 (length (xs ++ x ∷ [])) ≡ true
some_more xs x = lt-ltb 0 (length (xs ++ x ∷ [])) (omega (arith, length-append xs (x ∷ [])))

record AreWords (f : ℕ) (word : List ℕ) (words : Words) : Type 0 where
  up : Sorted term_cmp (keys words)
  least : AtLeast f word (keys words)
  some : AllByRecursion (λ (entry : (ℕ × List ℕ) × List ℕ). has_some entry ≡ true) words

together_are : (f : ℕ) (word : List ℕ) (positions : List ℕ) (ts : List (List ℕ × ℕ)) → nat_lt 0 (length positions) ≡ true → IsAfter word ts → UpWords ts → AreWords f word (together f word positions ts)
together_are f word positions [] some after up = record {
  up = sorted_cons term_cmp (f, word) [] tt (sorted_none term_cmp);
  least = ((refl, not_after_itself word), tt);
  some = (some, tt);
}
together_are f word positions (t ∷ ts) some after up =
    split (bytes_eq t.0 word)
    (λ is. rw is (together_are f word (positions ++ t.1 ∷ []) ts (some_more positions t.1) after.1 up.1))
    (λ isnt.
    let rest : AreWords f t.0 (together f t.0 (t.1 ∷ []) ts) = together_are f t.0 (t.1 ∷ []) ts refl up.0 up.1 in
    let apart : is_eq (bytes_cmp word t.0) ≡ false = (eq_by_cmp_equiv nat_list_cmp_total).symm word t.0 ∙ is_eq-slice_cmp t.0 word ∙ isnt in
    let less : bytes_cmp word t.0 ≡ Less = less_then (bytes_cmp word t.0) Less after.0 apart in
    rw isnt (record {
      up = sorted_cons term_cmp (f, word) (keys (together f t.0 (t.1 ∷ []) ts)) (term_before f word t.0 (keys (together f t.0 (t.1 ∷ []) ts)) less rest.least) rest.up;
      least = ((refl, not_after_itself word), at_least_on f word t.0 (keys (together f t.0 (t.1 ∷ []) ts)) less rest.least);
      some = (some, rest.some);
    }))

record AreOfField (f : ℕ) (words : Words) : Type 0 where
  up : Sorted term_cmp (keys words)
  of_field : AllByRecursion (λ (term : ℕ × List ℕ). term.0 ≡ f) (keys words)
  some : AllByRecursion (λ (entry : (ℕ × List ℕ) × List ℕ). has_some entry ≡ true) words

grouped_are : (f : ℕ) (ts : List (List ℕ × ℕ)) → UpWords ts → AreOfField f (grouped f ts)
grouped_are f [] up = record { up = sorted_none term_cmp; of_field = tt; some = tt }
grouped_are f (t ∷ ts) up =
    let all : AreWords f t.0 (together f t.0 (t.1 ∷ []) ts) = together_are f t.0 (t.1 ∷ []) ts refl up.0 up.1 in
    record {
      up = all.up;
      of_field = each_then (λ (term : ℕ × List ℕ). (term.0 ≡ f) × (is_gt (bytes_cmp t.0 term.1) ≡ false)) (λ (term : ℕ × List ℕ). term.0 ≡ f) (λ term both. both.0) (keys (together f t.0 (t.1 ∷ []) ts)) all.least;
      some = all.some;
    }

words_are_of : (f : ℕ) (ts : List (List ℕ × ℕ)) → AreOfField f (words_of_field f ts)
words_are_of f ts = grouped_are f (ascending token_cmp ts) (by_words (ascending token_cmp ts) (up_ascending token_cmp token_total ts))

-- ---- words of several fields

module _ (tokens_at : ℕ → List (List ℕ × ℕ)) where
  abbrev all_words : List ℕ → Words
  all_words fs = flat_map (λ f. words_of_field f (tokens_at f)) fs

  keys_append : (xs ys : Words) → keys (xs ++ ys) ≡ keys xs ++ keys ys
  keys_append [] ys = refl
  keys_append (x ∷ xs) ys = ap (λ rest. x.0 ∷ rest) (keys_append xs ys)

  moved : (P : ℕ → Type 0) (f : ℕ) (terms : List (ℕ × List ℕ)) → P f → AllByRecursion (λ (term : ℕ × List ℕ). term.0 ≡ f) terms → AllByRecursion (λ (term : ℕ × List ℕ). P term.0) terms
  moved P f [] here all = tt
  moved P f (term ∷ terms) here all = (subst P (sym all.0) here, moved P f terms here all.1)

  fields_of_words : (P : ℕ → Type 0) (fs : List ℕ) → AllByRecursion P fs → AllByRecursion (λ (term : ℕ × List ℕ). P term.0) (keys (all_words fs))
  fields_of_words P [] all = tt
  fields_of_words P (f ∷ fs) all =
      let own : AreOfField f (words_of_field f (tokens_at f)) = words_are_of f (tokens_at f) in
      subst (AllByRecursion (λ (term : ℕ × List ℕ). P term.0)) (sym (keys_append (words_of_field f (tokens_at f)) (all_words fs)))
      (each_append (λ (term : ℕ × List ℕ). P term.0) (keys (words_of_field f (tokens_at f))) (keys (all_words fs)) (moved P f (keys (words_of_field f (tokens_at f))) all.0 own.of_field) (fields_of_words P fs all.1))

  words_ascend : (fs : List ℕ) → Sorted nat_cmp fs → Sorted term_cmp (keys (all_words fs))
  words_ascend [] up = sorted_none term_cmp
  words_ascend (f ∷ fs) up =
      let own : AreOfField f (words_of_field f (tokens_at f)) = words_are_of f (tokens_at f) in
      subst (Sorted term_cmp) (sym (keys_append (words_of_field f (tokens_at f)) (all_words fs)))
      (sorted_append f (keys (words_of_field f (tokens_at f))) (keys (all_words fs)) own.up own.of_field (words_ascend fs (sorted_rest nat_cmp f fs up)) (fields_of_words (λ g. nat_cmp f g ≡ Less) fs (sorted_first nat_cmp f fs up)))

  words_some : (fs : List ℕ) → AllByRecursion (λ (entry : (ℕ × List ℕ) × List ℕ). has_some entry ≡ true) (all_words fs)
  words_some [] = tt
  words_some (f ∷ fs) = each_append (λ (entry : (ℕ × List ℕ) × List ℕ). has_some entry ≡ true) (words_of_field f (tokens_at f)) (all_words fs) (words_are_of f (tokens_at f)).some (words_some fs)

up_as : (ts : List (List ℕ × ℕ)) → Up token_cmp token_total ts → AreUp ts
up_as [] up = tt
up_as (t ∷ ts) up = (up.0, up_as ts up.1)

module _ (texts : ℕ → List (List ℕ)) where
  positions_rise : (fs : List ℕ) → AllByRecursion Rise (all_words (λ f. tokens (texts f)) fs)
  positions_rise [] = tt
  positions_rise (f ∷ fs) =
      each_append Rise (words_of_field f (tokens (texts f))) (all_words (λ g. tokens (texts g)) fs)
      (words_rise f (texts f) (up_as (ascending token_cmp (tokens (texts f))) (up_ascending token_cmp token_total (tokens (texts f))))) (positions_rise fs)

  no_words : (f : ℕ) → has_some (f, texts f) ≡ false → words_of_field f (tokens (texts f)) ≡ []
  unfolding tokens
  no_words f none = without (texts f) none
    where
      without : (ts : List (List ℕ)) → has_some (f, ts) ≡ false → words_of_field f (tokens ts) ≡ []
      without [] empty = refl
      without (t ∷ ts) empty = absurd (grind (arith, nat_tests, empty))

  abbrev valued_fields : List ℕ → List ℕ
  valued_fields fs = keys (carried (λ f. texts f) fs)

  of_first : (f : ℕ) (more : List ℕ) (ws : Words) → AllByRecursion (λ (term : ℕ × List ℕ). term.0 ≡ f) (keys ws) → AllByRecursion (λ (word : (ℕ × List ℕ) × List ℕ). list_any (λ g. g == word.0.0) (f ∷ more) ≡ true) ws
  of_first f more [] own = tt
  of_first f more (w ∷ ws) own = (rw (eq-eqb f w.0.0 (sym own.0)) refl, of_first f more ws own.1)

  one_further : (test : ℕ → Bool) (f : ℕ) (fs : List ℕ) → list_any test fs ≡ true → list_any test (f ∷ fs) ≡ true
  one_further test f fs is = any_later test (f ∷ []) fs is

  words_valued : (fs : List ℕ) → AllByRecursion (λ (word : (ℕ × List ℕ) × List ℕ). list_any (λ g. g == word.0.0) (valued_fields fs) ≡ true) (all_words (λ f. tokens (texts f)) fs)
  words_valued [] = tt
  words_valued (f ∷ fs) =
      split (has_some (f, texts f))
      (λ is.
      let here : valued_fields (f ∷ fs) ≡ f ∷ valued_fields fs = rw is refl in
      subst (λ own. AllByRecursion (λ (word : (ℕ × List ℕ) × List ℕ). list_any (λ g. g == word.0.0) own ≡ true) (all_words (λ g. tokens (texts g)) (f ∷ fs))) (sym here)
      (each_append (λ (word : (ℕ × List ℕ) × List ℕ). list_any (λ g. g == word.0.0) (f ∷ valued_fields fs) ≡ true) (words_of_field f (tokens (texts f))) (all_words (λ g. tokens (texts g)) fs)
      (of_first f (valued_fields fs) (words_of_field f (tokens (texts f))) (words_are_of f (tokens (texts f))).of_field)
      (each_then (λ (word : (ℕ × List ℕ) × List ℕ). list_any (λ g. g == word.0.0) (valued_fields fs) ≡ true) (λ (word : (ℕ × List ℕ) × List ℕ). list_any (λ g. g == word.0.0) (f ∷ valued_fields fs) ≡ true) (λ word there. one_further (λ g. g == word.0.0) f (valued_fields fs) there) (all_words (λ g. tokens (texts g)) fs) (words_valued fs))))
      (λ isnt.
      let here : valued_fields (f ∷ fs) ≡ valued_fields fs = rw isnt refl in
      let none : words_of_field f (tokens (texts f)) ≡ [] = no_words f isnt in
      subst (λ own. AllByRecursion (λ (word : (ℕ × List ℕ) × List ℕ). list_any (λ g. g == word.0.0) own ≡ true) (all_words (λ g. tokens (texts g)) (f ∷ fs))) (sym here)
      (subst (λ (own : Words). AllByRecursion (λ (word : (ℕ × List ℕ) × List ℕ). list_any (λ g. g == word.0.0) (valued_fields fs) ≡ true) (own ++ all_words (λ g. tokens (texts g)) fs)) (sym none) (words_valued fs)))

words_by_field : (texts : ℕ → List (List ℕ)) (fs : List ℕ) → flat_map field_words (map (λ f. (f, texts f)) fs) ≡ all_words (λ f. tokens (texts f)) fs
words_by_field texts [] = refl
words_by_field texts (f ∷ fs) = ap (λ rest. words_of_field f (tokens (texts f)) ++ rest) (words_by_field texts fs)

-- ---- the document of an object

by_each : {X : Type 0} (P : X → Type 0) (xs : List X) → AllByRecursion P xs → All P xs
by_each P [] all = λ k d h. absurd (omega (arith, h))
by_each P (x ∷ xs) all = All-cons P x xs all.0 (by_each P xs all.1)

flat_ordered : (m : Mapping) (o : Object) → IsOrdered (flat_of m o)
flat_ordered m o =
    let numbers = fields_ascend has_numbers m in
    let keywords = fields_ascend is_keyword m in
    let texts = fields_ascend is_text m in
    let words_are = words_by_field (λ f. (text_field m o f).1) (fields_of is_text m) in
    record {
      numbers = record {
        ascending = carried_ascend (λ f. (number_field m o f).1) (fields_of has_numbers m) numbers;
        some = by_each (λ (entry : ℕ × List ℤ). has_some entry ≡ true) (flat_of m o).numbers (carried_some (λ f. (number_field m o f).1) (fields_of has_numbers m));
      };
      keywords = record {
        ascending = carried_ascend (λ f. (keyword_field m o f).1) (fields_of is_keyword m) keywords;
        some = by_each (λ (entry : ℕ × List (List ℕ)). has_some entry ≡ true) (flat_of m o).keywords (carried_some (λ f. (keyword_field m o f).1) (fields_of is_keyword m));
      };
      words = record {
        ascending = subst (λ (ws : Words). Sorted term_cmp (keys ws)) (sym words_are) (words_ascend (λ f. tokens (text_field m o f).1) (fields_of is_text m) texts);
        some = by_each (λ (word : (ℕ × List ℕ) × List ℕ). has_some word ≡ true) (flat_of m o).words
            (subst (AllByRecursion (λ (word : (ℕ × List ℕ) × List ℕ). has_some word ≡ true)) (sym words_are) (words_some (λ f. tokens (text_field m o f).1) (fields_of is_text m)));
      };
      texts = carried_ascend (λ f. (text_field m o f).1) (fields_of is_text m) texts;
      numbers_rise = by_each (λ (entry : ℕ × List ℤ). IsSorted int_cmp entry.1) (flat_of m o).numbers
          (carried_all (λ f. (number_field m o f).1) (IsSorted int_cmp) (λ f. sorted_ascending int_cmp int_cmp_total (numbers_in (values m f o))) (fields_of has_numbers m));
      keywords_rise = by_each (λ (entry : ℕ × List (List ℕ)). IsSorted (slice_cmp nat_cmp) entry.1) (flat_of m o).keywords
          (carried_all (λ f. (keyword_field m o f).1) (IsSorted (slice_cmp nat_cmp)) (λ f. sorted_ascending bytes_cmp nat_list_cmp_total (texts_in (values m f o))) (fields_of is_keyword m));
      positions_rise = by_each Rise (flat_of m o).words (subst (AllByRecursion Rise) (sym words_are) (positions_rise (λ f. (text_field m o f).1) (fields_of is_text m)));
      valued = by_each (λ (word : (ℕ × List ℕ) × List ℕ). Contains (flat_of m o).texts word.0.0) (flat_of m o).words
          (each_then (λ (word : (ℕ × List ℕ) × List ℕ). list_any (λ g. g == word.0.0) (flat_of m o).texts ≡ true) (λ (word : (ℕ × List ℕ) × List ℕ). Contains (flat_of m o).texts word.0.0) (λ word there. any_number word.0.0 (flat_of m o).texts there) (flat_of m o).words
          (subst (AllByRecursion (λ (word : (ℕ × List ℕ) × List ℕ). list_any (λ g. g == word.0.0) (flat_of m o).texts ≡ true)) (sym words_are) (words_valued (λ f. (text_field m o f).1) (fields_of is_text m))));
    }

flats_ordered : (m : Mapping) (os : List Object) → AllByRecursion IsOrdered (map (flat_of m) os)
flats_ordered m [] = tt
flats_ordered m (o ∷ os) = (flat_ordered m o, flats_ordered m os)

pub block_ordered : (m : Mapping) (block : BlockState) → BlockFits m block → AllByRecursion IsOrdered block.flats
unfolding flats_of_tree
block_ordered m block fits = subst (λ (b : BlockState). AllByRecursion IsOrdered b.flats) (sym fits.is) (flats_ordered m (block_objects m fits.tree))

pub blocks_ordered : (m : Mapping) (blocks : List BlockState) → AllByRecursion (BlockFits m) blocks → AllByRecursion IsOrdered (flat_map (λ (block : BlockState). block.flats) blocks)
blocks_ordered m [] all = tt
blocks_ordered m (block ∷ blocks) all = each_append IsOrdered block.flats (flat_map (λ (b : BlockState). b.flats) blocks) (block_ordered m block all.0) (blocks_ordered m blocks all.1)

pub all_ordered : (m : Mapping) (blocks : List BlockState) → All (BlockFits m) blocks → All IsOrdered (flat_map (λ (block : BlockState). block.flats) blocks)
all_ordered m blocks all = by_each IsOrdered (flat_map (λ (block : BlockState). block.flats) blocks) (blocks_ordered m blocks (each_by (BlockFits m) blocks all))
