-- Modes look at no order: values that are put in order document by document have the mode that they had.
use Rattle.std.specs.Prelude.{◌≡◌, ℕ, suc, ◌-◌, ◌/◌, ℤ, pos, ◌+ℤ◌, Bool, true, false, cond, List, [], ◌∷◌, ◌++◌, map, length, fold, Option, Some, None, refl}
use Rattle.std.specs.Int.{saturate_signed, w64}
use Rattle.std.specs.List.{flat_map, best_of, AllByRecursion}
use Rattle.std.specs.Ordering.{int_cmp, is_gt}
use Rattle.std.specs.declared.cmp.Ordering.{Ordering}
use Rattle.std.specs.Cmp.{IsStrictWeakOrder}
use Rattle.std.proofs.Common.{arith, ap, sym, ◌∙◌}
use Rattle.std.proofs.lemmas.Bool.{false≢true}
use Rattle.std.proofs.lemmas.Int.{ints}
use Rattle.flattener.specs.Flat.{ascending, bytes_cmp, placed as put_up}
use Rattle.query_ast.specs.Compare.{in_order, is_less, placed}
use Rattle.query_ast.specs.SortKey.{greatest_value, is_greater, least_value, mode_value, number_at, number_in, total}
use Rattle.query_ast.specs.declared.sort.SortMode.{SortMode}
use Rattle.query_ast.specs.declared.sort.SortMode.TheVariants.{Min, Max, Sum, Avg, Median}
use Rattle.score_math.specs.Integers.{floor_div}
use Rattle.tree_objects.specs.declared.field_value.FieldValue.{FieldValue}
use Rattle.tree_objects.specs.declared.field_value.FieldValue.TheVariants.{Number}
use Rattle.nested_sort.specs.Documents.{number_value, text_value}
use Rattle.nested_sort.proofs.Orders.{less_orders, greater_orders, same_value, same_greater}

pub by_test : {G : Type 0} (t : Bool) → (t ≡ true → G) → (t ≡ false → G) → G
by_test true held failed = held refl
by_test false held failed = failed refl

-- ---- what is made of a list element by element, in whatever order

abbrev act : {A B : Type 0} → (A → B → B) → List A → B → B
act {A} {B} op [] b = b
act {A} {B} op (x ∷ xs) b = op x (act op xs b)

act_append : {A B : Type 0} (op : A → B → B) (xs ys : List A) (b : B) → act op (xs ++ ys) b ≡ act op xs (act op ys b)
act_append op [] ys b = refl
act_append op (x ∷ xs) ys b = ap (op x) (act_append op xs ys b)

act_map : {A C B : Type 0} (op : C → B → B) (h : A → C) (xs : List A) (b : B) → act op (map h xs) b ≡ act (λ x. op (h x)) xs b
act_map op h [] b = refl
act_map op h (x ∷ xs) b = ap (op (h x)) (act_map op h xs b)

module _ {A B : Type 0} (op : A → B → B) (commutes : (x y : A) (b : B) → op x (op y b) ≡ op y (op x b)) where
  act_put : (cmp : A → A → Ordering) (x : A) (ys : List A) (b : B) → act op (put_up cmp x ys) b ≡ op x (act op ys b)
  act_put cmp x [] b = refl
  act_put cmp x (y ∷ ys) b =
      by_test (is_gt (cmp x y))
      (λ yes. rw yes (ap (op y) (act_put cmp x ys b) ∙ commutes y x (act op ys b)))
      (λ no. rw no refl)

  act_ascending : (cmp : A → A → Ordering) (xs : List A) (b : B) → act op (ascending cmp xs) b ≡ act op xs b
  act_ascending cmp [] b = refl
  act_ascending cmp (x ∷ xs) b = act_put cmp x (ascending cmp xs) b ∙ ap (op x) (act_ascending cmp xs b)

  act_inner : (xs : List A) (x : A) (b : B) → act op xs (op x b) ≡ op x (act op xs b)
  act_inner [] x b = refl
  act_inner (y ∷ xs) x b = ap (op y) (act_inner xs x b) ∙ commutes y x (act op xs b)

  fold_act : (xs : List A) (b : B) → fold (λ b x. op x b) b xs ≡ act op xs b
  fold_act [] b = refl
  fold_act (x ∷ xs) b = fold_act xs (op x b) ∙ act_inner xs x b

-- ---- values that are put in order

pub record OfNumbers (sorted plain : List FieldValue) : Type 0 where
  pub numbers : List ℤ
  pub up : sorted ≡ map number_value (ascending int_cmp numbers)
  pub are : plain ≡ map number_value numbers

pub record OfTexts (sorted plain : List FieldValue) : Type 0 where
  pub texts : List (List ℕ)
  pub up : sorted ≡ map text_value (ascending bytes_cmp texts)
  pub are : plain ≡ map text_value texts

pub data Reordered (sorted plain : List FieldValue) : Type 0 where
  of_numbers : OfNumbers sorted plain → Reordered sorted plain
  of_texts : OfTexts sorted plain → Reordered sorted plain

pub numbers_reordered : (sorted plain : List FieldValue) (numbers : List ℤ) → sorted ≡ map number_value (ascending int_cmp numbers) → plain ≡ map number_value numbers → Reordered sorted plain
numbers_reordered sorted plain numbers up are = of_numbers (record { numbers = numbers; up = up; are = are })

pub texts_reordered : (sorted plain : List FieldValue) (texts : List (List ℕ)) → sorted ≡ map text_value (ascending bytes_cmp texts) → plain ≡ map text_value texts → Reordered sorted plain
texts_reordered sorted plain texts up are = of_texts (record { texts = texts; up = up; are = are })

module _ {B : Type 0} (op : FieldValue → B → B) (commutes : (x y : FieldValue) (b : B) → op x (op y b) ≡ op y (op x b)) where
  mapped : {A : Type 0} (h : A → FieldValue) (cmp : A → A → Ordering) (xs : List A) (b : B) → act op (map h (ascending cmp xs)) b ≡ act op (map h xs) b
  mapped h cmp xs b =
      act_map op h (ascending cmp xs) b
      ∙ act_ascending (λ x. op (h x)) (λ x y b. commutes (h x) (h y) b) cmp xs b
      ∙ sym (act_map op h xs b)

  act_reordered : (sorted plain : List FieldValue) → Reordered sorted plain → (b : B) → act op sorted b ≡ act op plain b
  act_reordered sorted plain (of_numbers o) b = ap (λ vs. act op vs b) o.up ∙ mapped number_value int_cmp o.numbers b ∙ sym (ap (λ vs. act op vs b) o.are)
  act_reordered sorted plain (of_texts o) b = ap (λ vs. act op vs b) o.up ∙ mapped text_value bytes_cmp o.texts b ∙ sym (ap (λ vs. act op vs b) o.are)

  act_each : {D O : Type 0} (f : D → List FieldValue) (g : O → List FieldValue) (object : D → O) (ds : List D) → AllByRecursion (λ d. Reordered (f d) (g (object d))) ds → (b : B) → act op (flat_map f ds) b ≡ act op (flat_map g (map object ds)) b
  act_each f g object [] each b = refl
  act_each f g object (d ∷ ds) each b =
      act_append op (f d) (flat_map f ds) b
      ∙ ap (act op (f d)) (act_each f g object ds each.1 b)
      ∙ act_reordered (f d) (g (object d)) each.0 (act op (flat_map g (map object ds)) b)
      ∙ sym (act_append op (g (object d)) (flat_map g (map object ds)) b)

-- ---- the operations of modes

abbrev counts : FieldValue → ℕ → ℕ
counts v n = suc n

abbrev adds : FieldValue → ℤ → ℤ
adds v sum = sum +ℤ number_in v

-- the better of two, if there are two
abbrev picks : (FieldValue → FieldValue → Bool) → FieldValue → Option FieldValue → Option FieldValue
picks beats v None = Some v
picks beats v (Some b) = Some (cond (beats v b) v b)

add_commutes : (x y : FieldValue) (sum : ℤ) → adds x (adds y sum) ≡ adds y (adds x sum)
add_commutes x y sum = swapped sum (number_in y) (number_in x)
  where
    swapped : (a b c : ℤ) → (a +ℤ b) +ℤ c ≡ (a +ℤ c) +ℤ b
    swapped a b c = omega (arith, ints)

module _ (beats : FieldValue → FieldValue → Bool) (order : IsStrictWeakOrder beats) (same : (x y : FieldValue) → beats x y ≡ false → beats y x ≡ false → x ≡ y) where
  two : (x y : FieldValue) → cond (beats x y) x y ≡ cond (beats y x) y x
  two x y =
      by_test (beats x y)
      (λ yes. rw (yes, order.one_way x y yes) refl)
      (λ no. by_test (beats y x) (λ back. rw (no, back) refl) (λ none. rw (no, none) (sym (same x y no none))))

  -- the first is better than the third, the second isn't
  second_fails : (x y b : FieldValue) → beats y b ≡ true → beats x b ≡ false → beats x y ≡ false
  second_fails x y b better worse =
      by_test (beats x y)
      (λ held. absurd (false≢true (sym (order.chain y x b (order.one_way x y held) worse) ∙ better)))
      (λ failed. failed)

  three : (x y b : FieldValue) → cond (beats x (cond (beats y b) y b)) x (cond (beats y b) y b) ≡ cond (beats y (cond (beats x b) x b)) y (cond (beats x b) x b)
  three x y b =
      by_test (beats y b)
      (λ y_better. by_test (beats x b)
      (λ x_better. simp (y_better, x_better) (two x y))
      (λ x_worse. let lost = second_fails x y b y_better x_worse in simp (y_better, x_worse, lost) refl))
      (λ y_worse. by_test (beats x b)
      (λ x_better. let lost = second_fails y x b x_better y_worse in simp (y_worse, x_better, lost) refl)
      (λ x_worse. simp (y_worse, x_worse) refl))

  pick_commutes : (x y : FieldValue) (b : Option FieldValue) → picks beats x (picks beats y b) ≡ picks beats y (picks beats x b)
  pick_commutes x y None = ap (λ v. Some v) (two x y)
  pick_commutes x y (Some b) = ap (λ v. Some v) (three x y b)

  picked : (v : FieldValue) (vs : List FieldValue) → Some (best_of beats v vs) ≡ fold (λ b x. picks beats x b) (Some v) vs
  picked v [] = refl
  picked v (w ∷ vs) = picked (cond (beats w v) w v) vs

  best_act : (v : FieldValue) (vs : List FieldValue) → Some (best_of beats v vs) ≡ act (picks beats) (v ∷ vs) None
  best_act v vs = picked v vs ∙ fold_act (picks beats) pick_commutes (v ∷ vs) None

-- an element that is put before the first that it isn't behind
behind_both : (x y f : FieldValue) → is_less f x ≡ false → is_less f y ≡ true → is_less x y ≡ true
behind_both x y f first second =
    by_test (is_less x y)
    (λ held. held)
    (λ failed. absurd (false≢true (sym (less_orders.chain f x y first failed) ∙ second)))

pair_commutes : (x y : FieldValue) (rest : List FieldValue) → (cond (is_less y x) (y ∷ x ∷ rest) (x ∷ y ∷ rest)) ≡ (cond (is_less x y) (x ∷ y ∷ rest) (y ∷ x ∷ rest))
pair_commutes x y rest =
    by_test (is_less y x)
    (λ yes. rw (yes, less_orders.one_way y x yes) refl)
    (λ no. by_test (is_less x y)
    (λ held. rw (no, held) refl)
    (λ failed. let same : x ≡ y = same_value x y failed no in rw (no, failed) (ap (λ v. v ∷ y ∷ rest) same ∙ ap (λ v. y ∷ v ∷ rest) (sym same))))

place_commutes : (x y : FieldValue) (zs : List FieldValue) → placed is_less x (placed is_less y zs) ≡ placed is_less y (placed is_less x zs)
place_commutes x y [] = pair_commutes x y []
place_commutes x y (f ∷ zs) =
    by_test (is_less f y)
    (λ y_later. by_test (is_less f x)
    (λ x_later. simp (y_later, x_later) (ap (λ vs. f ∷ vs) (place_commutes x y zs)))
    (λ x_here. let before = behind_both x y f x_here y_later in simp (y_later, x_here, before) refl))
    (λ y_here. by_test (is_less f x)
    (λ x_later. let before = behind_both y x f y_here x_later in simp (y_here, x_later, before) refl)
    (λ x_here. simp (y_here, x_here) (pair_commutes x y (f ∷ zs))))

order_act : (vs : List FieldValue) → in_order is_less vs ≡ act (placed is_less) vs []
order_act [] = refl
order_act (v ∷ vs) = ap (placed is_less v) (order_act vs)

count_act : (vs : List FieldValue) → length vs ≡ act counts vs 0
count_act [] = refl
count_act (v ∷ vs) = ap suc (count_act vs)

least_act : (vs : List FieldValue) → least_value vs ≡ act (picks is_less) vs None
least_act [] = refl
least_act (v ∷ vs) = best_act is_less less_orders same_value v vs

greatest_act : (vs : List FieldValue) → greatest_value vs ≡ act (picks is_greater) vs None
greatest_act [] = refl
greatest_act (v ∷ vs) = best_act is_greater greater_orders same_greater v vs

-- ---- modes

record Alike (xs ys : List FieldValue) : Type 0 where
  pub count : length xs ≡ length ys
  pub order : in_order is_less xs ≡ in_order is_less ys
  pub sum : total xs ≡ total ys
  pub least : least_value xs ≡ least_value ys
  pub greatest : greatest_value xs ≡ greatest_value ys

alike_mode : (mode : SortMode) (xs ys : List FieldValue) → Alike xs ys → mode_value mode xs ≡ mode_value mode ys
alike_mode mode [] [] a = refl
alike_mode mode [] (y ∷ ys) a = absurd (let e = a.count in omega arith)
alike_mode mode (x ∷ xs) [] a = absurd (let e = a.count in omega arith)
alike_mode Min (x ∷ xs) (y ∷ ys) a = a.least
alike_mode Max (x ∷ xs) (y ∷ ys) a = a.greatest
alike_mode Sum (x ∷ xs) (y ∷ ys) a = ap (λ sum. Some (Number (saturate_signed w64 sum))) a.sum
alike_mode Avg (x ∷ xs) (y ∷ ys) a = ap (λ sum. Some (Number (floor_div sum (length (x ∷ xs))))) a.sum ∙ ap (λ count. Some (Number (floor_div (total (y ∷ ys)) count))) a.count
alike_mode Median (x ∷ xs) (y ∷ ys) a =
    ap (λ vs. Some (Number (floor_div (number_at ((length (x ∷ xs) - 1) / 2) vs +ℤ number_at (length (x ∷ xs) / 2) vs) 2))) a.order
    ∙ ap (λ count. Some (Number (floor_div (number_at ((count - 1) / 2) (in_order is_less (y ∷ ys)) +ℤ number_at (count / 2) (in_order is_less (y ∷ ys))) 2))) a.count

pub mode_each : {D O : Type 0} (f : D → List FieldValue) (g : O → List FieldValue) (object : D → O) (ds : List D) → AllByRecursion (λ d. Reordered (f d) (g (object d))) ds
    → (mode : SortMode) → mode_value mode (flat_map f ds) ≡ mode_value mode (flat_map g (map object ds))
mode_each f g object ds each mode =
    let xs = flat_map f ds in
    let ys = flat_map g (map object ds) in
    alike_mode mode xs ys (record {
      count = count_act xs ∙ act_each counts (λ x y n. refl) f g object ds each 0 ∙ sym (count_act ys);
      order = order_act xs ∙ act_each (placed is_less) place_commutes f g object ds each [] ∙ sym (order_act ys);
      sum = fold_act adds add_commutes xs (pos 0) ∙ act_each adds add_commutes f g object ds each (pos 0) ∙ sym (fold_act adds add_commutes ys (pos 0));
      least = least_act xs ∙ act_each (picks is_less) (pick_commutes is_less less_orders same_value) f g object ds each None ∙ sym (least_act ys);
      greatest = greatest_act xs ∙ act_each (picks is_greater) (pick_commutes is_greater greater_orders same_greater) f g object ds each None ∙ sym (greatest_act ys);
    })
