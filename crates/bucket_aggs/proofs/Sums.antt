-- What numbers come to, one number after the other, and what the values of objects come to.
use Rattle.std.proofs.Common.{◌≡◌, ℕ, suc, ◌+◌, ◌<◌, ℤ, pos, negsuc, ◌+ℤ◌, Bool, true, false, cond, List, [], ◌∷◌, ◌++◌, length, map, fold, sum_by, Some, None, refl, sym, ap, subst, ◌∙◌, arith, append_assoc}
use Rattle.std.specs.Prelude.{◌-◌, ◌^◌, ◌≤◌, ◌<ℤ◌, ◌≤ℤ◌, FitsSigned}
use Rattle.std.specs.Int.{w64}
use Rattle.std.specs.List.{AllByRecursion, flat_map}
use Rattle.std.specs.List.Sorted.{IsPermutation}
use Rattle.std.specs.Ordering.{int_cmp, is_lt}
use Rattle.std.specs.declared.cmp.Ordering.{Ordering}
use Rattle.std.specs.declared.cmp.Ordering.TheVariants.{Less, Equal, Greater}
use Rattle.std.proofs.lemmas.Bool.{false≢true}
use Rattle.std.specs.Ordering.{MatchOrdering}
use Rattle.std.proofs.lemmas.Cmp.{int_cmp_total, int_ranked, tied_itself}
use Rattle.std.proofs.lemmas.Int.{ints}
use Rattle.std.proofs.lemmas.List.{length-append, map-append}
use Rattle.std.proofs.lemmas.List.Elements.{Contains-append_left, Contains-push}
use Rattle.std.proofs.lemmas.List.Sorted.{IsPermutation-append, IsPermutation-refl, sum_by-IsPermutation}
use Rattle.std.proofs.lemmas.List.Sums.{sum_by-cons}
use Rattle.doc_values.specs.Values.{values_of}
use Rattle.flattener.specs.Flat.{flat_of}
use Rattle.mapping.specs.Mapping.{Mapping, kind_at}
use Rattle.query_ast.specs.Buckets.{all_shown}
use Rattle.query_ast.specs.Uses.{is_written}
use Rattle.query_ast.specs.SortKey.{number_in, total}
use Rattle.tree_objects.specs.Object.{Object}
use Rattle.tree_objects.specs.Values.{values}
use Rattle.tree_objects.specs.declared.field_value.FieldValue.{FieldValue}
use Rattle.tree_objects.specs.declared.field_value.FieldValue.TheVariants.{Number, Written}
use Rattle.view_objects.specs.Values.{values_shown}
use Rattle.bucket_aggs.specs.Sums.{HasRoom, IsAdded, IsAnew, IsFirst, IsSummary, above, below, first_from, first_of, no_numbers, numbers_in, sum_of}
use Rattle.bucket_aggs.specs.declared.metrics.Running.{Running}
use Rattle.bucket_aggs.proofs.Documents.{nothing_behind}
use Rattle.query_ast.proofs.Elements.{Each, by_test, each_as}

-- ---- the first of numbers

module _ (before : ℤ → ℤ → Bool) (goes_on : (x z a : ℤ) → before x z ≡ true → before z a ≡ true → before x a ≡ true) (itself : (a : ℤ) → before a a ≡ false) where
  each_more : (P : ℤ → Type 0) (zs : List ℤ) (z : ℤ) → Each P zs → P z → Each P (zs ++ z ∷ [])
  each_more P [] z h p = (p, tt)
  each_more P (x ∷ zs) z h p = (h.0, each_more P zs z h.1 p)

  pub first_more : (zs : List ℤ) (first z : ℤ) → IsFirst before zs (Some first) → IsFirst before (zs ++ z ∷ []) (Some (first_of before first z))
  first_more zs a z is =
      by_test (before z a)
      (λ held. rw held (Contains-push zs z, each_more (λ (x : ℤ). before x z ≡ false) zs z (each_as (λ (x : ℤ). before x a ≡ false) (λ (x : ℤ). before x z ≡ false) (λ x h. by_test (before x z) (λ yes. absurd (false≢true (sym h ∙ goes_on x z a yes held))) (λ no. no)) zs is.1) (itself z)))
      (λ failed. rw failed (Contains-append_left zs (z ∷ []) a is.0, each_more (λ (x : ℤ). before x a ≡ false) zs z is.1 failed))

  -- more numbers behind some
  first_on : (done : List ℤ) (first : ℤ) (zs : List ℤ) → IsFirst before done (Some first) → IsFirst before (done ++ zs) (Some (first_from before first zs))
  first_on done first [] is = subst (λ (l : List ℤ). IsFirst before l (Some first)) (nothing_behind done) is
  first_on done first (z ∷ zs) is =
      subst (λ (l : List ℤ). IsFirst before l (Some (first_from before first (z ∷ zs)))) (append_assoc done (z ∷ []) zs)
      (first_on (done ++ z ∷ []) (first_of before first z) zs (first_more done first z is))

  -- a start that comes before none: then the first is one of the numbers
  pub first_all : (start z : ℤ) (zs : List ℤ) → first_of before start z ≡ z → IsFirst before (z ∷ zs) (Some (first_from before start (z ∷ zs)))
  first_all start z zs is =
      subst (λ (first : ℤ). IsFirst before (z ∷ zs) (Some (first_from before first zs))) (sym is)
      (first_on (z ∷ []) z zs (Contains-push [] z, (itself z, tt)))

lt_is : (r : Ordering) → is_lt r ≡ true → r ≡ Less
lt_is Less h = refl
lt_is Equal h = absurd (let no : ⊥ = cc in no)
lt_is Greater h = absurd (let no : ⊥ = cc in no)

pub below_on : (x z a : ℤ) → below x z ≡ true → below z a ≡ true → below x a ≡ true
below_on x z a h g = ap is_lt (int_cmp_total.trans x z a (lt_is (int_cmp x z) h) (lt_is (int_cmp z a) g))

pub not_below : (a : ℤ) → below a a ≡ false
not_below a = ap is_lt (tied_itself int_cmp_total a)

-- ---- numbers while they are added

pub fold_on : {A B : Type 0} (f : A → B → A) (a : A) (xs ys : List B) → fold f a (xs ++ ys) ≡ fold f (fold f a xs) ys
fold_on f a [] ys = refl
fold_on f a (x ∷ xs) ys = fold_on f (f a x) xs ys

pub sum_from : (a : ℤ) (zs : List ℤ) → fold (λ sum z. sum +ℤ z) a zs ≡ a +ℤ sum_of zs
sum_from a [] = omega (arith, ints)
sum_from a (z ∷ zs) = omega (arith, ints, sum_from (a +ℤ z) zs, sum_from (pos 0 +ℤ z) zs)

each_on : (P : ℤ → Type 0) (zs ys : List ℤ) → Each P zs → Each P ys → Each P (zs ++ ys)
each_on P [] ys h g = g
each_on P (z ∷ zs) ys h g = (h.0, each_on P zs ys h.1 g)

pub added_none : (start : Running) → IsAdded start [] start
added_none start = record { count = omega arith; total = omega (arith, ints); least = refl; greatest = refl; fit = tt }

pub added_more : (start old new : Running) (zs others : List ℤ) → IsAdded start zs old → AllByRecursion (FitsSigned w64) others → new.count ≡ old.count + length others → new.total ≡ old.total +ℤ sum_of others → new.least ≡ first_from below old.least others → new.greatest ≡ first_from above old.greatest others
    → IsAdded start (zs ++ others) new
added_more start old new zs others was fit count total least greatest = record {
  count = omega (arith, count, was.count, length-append zs others);
  total = omega (arith, ints, total, was.total, ap (λ (z : ℤ). z) (fold_on (λ (s x : ℤ). s +ℤ x) (pos 0) zs others), sum_from (sum_of zs) others);
  least = least ∙ ap (λ (first : ℤ). first_from below first others) was.least ∙ sym (fold_on (first_of below) start.least zs others);
  greatest = greatest ∙ ap (λ (first : ℤ). first_from above first others) was.greatest ∙ sym (fold_on (first_of above) start.greatest zs others);
  fit = each_on (FitsSigned w64) zs others was.fit fit;
}

pub room_less : (few many : ℕ) (s : Running) → few ≤ many → HasRoom many s → HasRoom few s
room_less few many s less room = record {
  over = omega (arith, ints, less, room.over);
  under = omega (arith, ints, less, room.under);
  few = omega (arith, less, room.few);
}

pub room_anew : (many : ℕ) (s : Running) → many < 2 ^ 64 → IsAnew s → HasRoom many s
room_anew many s less new = record {
  over = omega (arith, ints, less, new.total);
  under = omega (arith, ints, less, new.total);
  few = omega (arith, less, new.count);
}

-- ---- what they come to

under_of : (a b : ℤ) → below a b ≡ true → a <ℤ b
under_of a b h = by (int_cmp a b) (int_ranked a b (int_cmp a b) refl) h
  where
    by : (r : Ordering) → MatchOrdering r (a <ℤ b) (a ≡ b) (b <ℤ a) → is_lt r ≡ true → a <ℤ b
    by Less held h = held
    by Equal held h = absurd (false≢true h)
    by Greater held h = absurd (false≢true h)

pub over_of : (a b : ℤ) → below a b ≡ false → b ≤ℤ a
over_of a b h = by (int_cmp a b) (int_ranked a b (int_cmp a b) refl) h
  where
    by : (r : Ordering) → MatchOrdering r (a <ℤ b) (a ≡ b) (b <ℤ a) → is_lt r ≡ false → b ≤ℤ a
    by Less held h = absurd (false≢true (sym h))
    by Equal held h = omega (arith, ints, held)
    by Greater held h = omega (arith, ints, held)

-- no number of 64 bits is above the greatest or below the least of them
least_start : (z : ℤ) → FitsSigned w64 z → first_of below (pos (2 ^ 63 - 1)) z ≡ z
least_start z fits = by_test (below z (pos (2 ^ 63 - 1))) (λ held. rw held refl) (λ failed. rw failed (omega (arith, ints, over_of z (pos (2 ^ 63 - 1)) failed, fits)))

greatest_start : (z : ℤ) → FitsSigned w64 z → first_of above (negsuc (2 ^ 63 - 1)) z ≡ z
greatest_start z fits = by_test (above z (negsuc (2 ^ 63 - 1))) (λ held. rw held refl) (λ failed. rw failed (omega (arith, ints, over_of (negsuc (2 ^ 63 - 1)) z failed, fits)))

module _ (r : Running) (count : ℕ) (many : count ≡ r.count) (sum : ℤ) (is : sum ≡ r.total) where
  all_many : (zs : List ℤ) → IsAdded no_numbers zs r → count ≡ length zs
  all_many zs was = omega (arith, many, was.count)

  all_total : (zs : List ℤ) → IsAdded no_numbers zs r → sum ≡ sum_of zs
  all_total zs was = omega (arith, ints, is, was.total)

  first_least : (z : ℤ) (zs : List ℤ) → IsAdded no_numbers (z ∷ zs) r → IsFirst below (z ∷ zs) (Some r.least)
  first_least z zs was = subst (λ (first : ℤ). IsFirst below (z ∷ zs) (Some first)) (sym was.least) (first_all below below_on not_below (pos (2 ^ 63 - 1)) z zs (least_start z was.fit.0))

  first_greatest : (z : ℤ) (zs : List ℤ) → IsAdded no_numbers (z ∷ zs) r → IsFirst above (z ∷ zs) (Some r.greatest)
  first_greatest z zs was =
      subst (λ (first : ℤ). IsFirst above (z ∷ zs) (Some first)) (sym was.greatest) (first_all above (λ x y a h g. below_on a y x g h) not_below (negsuc (2 ^ 63 - 1)) z zs (greatest_start z was.fit.0))

  pub summary_none : (zs : List ℤ) → IsAdded no_numbers zs r → below r.greatest r.least ≡ true → IsSummary zs (record { count = count; total = sum; least = None; greatest = None })
  summary_none [] was crossed = record { count = all_many [] was; total = all_total [] was; least = refl; greatest = refl }
  summary_none (z ∷ zs) was crossed =
      absurd (omega (arith, ints, under_of r.greatest r.least crossed, over_of z r.least (first_least z zs was).1.0, over_of r.greatest z (first_greatest z zs was).1.0))

  pub summary_some : (zs : List ℤ) (least greatest : ℤ) → least ≡ r.least → greatest ≡ r.greatest → IsAdded no_numbers zs r → below r.greatest r.least ≡ false → IsSummary zs (record { count = count; total = sum; least = Some least; greatest = Some greatest })
  summary_some [] least greatest low high was apart =
      absurd (false≢true (sym apart ∙ ap (λ (z : ℤ). below z r.least) was.greatest ∙ ap (λ (z : ℤ). below (negsuc (2 ^ 63 - 1)) z) was.least))
  summary_some (z ∷ zs) least greatest low high was apart = record {
    count = all_many (z ∷ zs) was;
    total = all_total (z ∷ zs) was;
    least = subst (λ (first : ℤ). IsFirst below (z ∷ zs) (Some first)) (sym low) (first_least z zs was);
    greatest = subst (λ (first : ℤ). IsFirst above (z ∷ zs) (Some first)) (sym high) (first_greatest z zs was);
  }

-- ---- sums have no order

abbrev upward : ℤ → ℕ
upward (pos n) = n
upward (negsuc n) = 0

abbrev downward : ℤ → ℕ
downward (pos n) = 0
downward (negsuc n) = suc n

parts_are : (z : ℤ) → z +ℤ pos (downward z) ≡ pos (upward z)
parts_are (pos n) = omega (arith, ints)
parts_are (negsuc n) = omega (arith, ints)

total_from : (a : ℤ) (vs : List FieldValue) → fold (λ sum v. sum +ℤ number_in v) a vs ≡ a +ℤ total vs
total_from a [] = omega (arith, ints)
total_from a (v ∷ vs) = omega (arith, ints, total_from (a +ℤ number_in v) vs, total_from (pos 0 +ℤ number_in v) vs)

total_parts : (vs : List FieldValue) → total vs +ℤ pos (sum_by (λ v. downward (number_in v)) vs) ≡ pos (sum_by (λ v. upward (number_in v)) vs)
total_parts [] = omega (arith, ints)
total_parts (v ∷ vs) =
    omega (arith, ints, total_from (pos 0 +ℤ number_in v) vs, total_parts vs, parts_are (number_in v), sum_by-cons (λ w. downward (number_in w)) v vs, sum_by-cons (λ w. upward (number_in w)) v vs)

pub total_permuted : (xs ys : List FieldValue) → IsPermutation xs ys → total xs ≡ total ys
total_permuted xs ys same =
    omega (arith, ints, total_parts xs, total_parts ys, sum_by-IsPermutation (λ w. downward (number_in w)) xs ys same, sum_by-IsPermutation (λ w. upward (number_in w)) xs ys same)

pub total_numbers : (a : ℤ) (zs : List ℤ) → fold (λ sum v. sum +ℤ number_in v) a (map Number zs) ≡ fold (λ sum z. sum +ℤ z) a zs
total_numbers a [] = refl
total_numbers a (z ∷ zs) = total_numbers (a +ℤ z) zs

-- ---- the values of objects

permuted_flat : {A B : Type 0} (f g : A → List B) (xs : List A) → ((x : A) → IsPermutation (f x) (g x)) → IsPermutation (flat_map f xs) (flat_map g xs)
permuted_flat f g [] each = IsPermutation-refl []
permuted_flat f g (x ∷ xs) each = IsPermutation-append (f x) (g x) (flat_map f xs) (flat_map g xs) (each x) (permuted_flat f g xs each)

numbers_flat : {A : Type 0} (f : A → List ℤ) (xs : List A) → flat_map (λ x. map Number (f x)) xs ≡ map Number (flat_map f xs)
numbers_flat f [] = refl
numbers_flat f (x ∷ xs) = ap (λ (l : List FieldValue). map Number (f x) ++ l) (numbers_flat f xs) ∙ sym (map-append Number (f x) (flat_map f xs))

flat_mapped : {A B C : Type 0} (f : B → List C) (g : A → B) (xs : List A) → flat_map f (map g xs) ≡ flat_map (λ x. f (g x)) xs
flat_mapped f g [] = refl
flat_mapped {A} {B} {C} f g (x ∷ xs) = ap (λ (l : List C). f (g x) ++ l) (flat_mapped f g xs)

module _ (m : Mapping) (f : ℕ) (shown : (o : Object) → IsPermutation (values m f o) (values_shown (kind_at m f) f (flat_of m o))) (numbers : is_written (kind_at m f) ≡ false) (objects : List Object) where
  abbrev pub told : List ℤ
  told = flat_map (numbers_in f) (map (flat_of m) objects)

  own_numbers : (o : Object) → IsPermutation (values m f o) (map Number (numbers_in f (flat_of m o)))
  own_numbers o = subst (IsPermutation (values m f o)) (ap (λ (b : Bool). cond b (map Written (values_of f (flat_of m o).keywords)) (map Number (values_of f (flat_of m o).numbers))) numbers) (shown o)

  pub all_told : IsPermutation (all_shown m (Some f) objects) (map Number told)
  all_told =
      subst (IsPermutation (all_shown m (Some f) objects))
      (numbers_flat (λ o. numbers_in f (flat_of m o)) objects ∙ ap (map Number) (sym (flat_mapped (numbers_in f) (flat_of m) objects)))
      (permuted_flat (values m f) (λ o. map Number (numbers_in f (flat_of m o))) objects own_numbers)

  pub sum_told : total (all_shown m (Some f) objects) ≡ sum_of told
  sum_told = total_permuted (all_shown m (Some f) objects) (map Number told) all_told ∙ total_numbers (pos 0) told
