-- The mode of numbers, mode by mode, and the best of values that are mapped.
use Rattle.std.specs.Prelude.{◌≡◌, ◌<◌, ℤ, pos, ◌+ℤ◌, fold, Bool, cond, List, [], ◌∷◌, map, length, Option, Some, option_map, refl}
use Rattle.std.specs.Int.{saturate_signed, w64}
use Rattle.std.specs.List.{AllByRecursion, best_of}
use Rattle.std.specs.Ordering.{int_cmp}
use Rattle.std.proofs.Common.{arith, ap, sym, ◌∙◌}
use Rattle.std.proofs.lemmas.List.{length-map}
use Rattle.query_ast.specs.Compare.{is_less}
use Rattle.query_ast.specs.SortKey.{is_greater, median, mode_value, number_in, total}
use Rattle.query_ast.specs.declared.sort.SortMode.TheVariants.{Min, Max, Sum, Avg, Median}
use Rattle.score_math.specs.Integers.{floor_div}
use Rattle.tree_objects.specs.declared.field_value.FieldValue.TheVariants.{Number}
use Rattle.nested_sort.specs.Best.{best, is_before, is_behind}
use Rattle.nested_sort.specs.Documents.{number_value}
use Rattle.nested_sort.proofs.Alike.{by_test}

-- ---- the best of values that are mapped, where the map keeps their order

module _ {A B : Type 0} (P : A → Type 0) (h : A → B) (beats : A → A → Bool) (other : B → B → Bool) (same : (x y : A) → P x → P y → other (h x) (h y) ≡ beats x y) where
  better : (x y : A) → P x → P y → h (cond (beats x y) x y) ≡ cond (other (h x) (h y)) (h x) (h y)
  better x y px py = by_test (beats x y) (λ yes. rw (same x y px py, yes) refl) (λ no. rw (same x y px py, no) refl)

  kept : (x y : A) → P x → P y → P (cond (beats x y) x y)
  kept x y px py = by_test (beats x y) (λ yes. rw yes px) (λ no. rw no py)

  pub best_mapped : (x : A) (xs : List A) → P x → AllByRecursion P xs → h (best_of beats x xs) ≡ best_of other (h x) (map h xs)
  best_mapped x [] px all = refl
  best_mapped x (y ∷ xs) px all =
      best_mapped (cond (beats y x) y x) xs (kept y x all.0 px) all.1
      ∙ ap (λ b. best_of other b (map h xs)) (better y x all.0 px)

  pub best_kept : (x : A) (xs : List A) → P x → AllByRecursion P xs → P (best_of beats x xs)
  best_kept x [] px all = px
  best_kept x (y ∷ xs) px all = best_kept (cond (beats y x) y x) xs (kept y x all.0 px) all.1

-- ---- numbers

abbrev Any : ℤ → Type 0
Any z = Unit {0}

all_any : (ns : List ℤ) → AllByRecursion Any ns
all_any [] = tt
all_any (n ∷ ns) = (tt, all_any ns)

pub of_least : (ns : List ℤ) (found : Option ℤ) → found ≡ best (is_before int_cmp) ns → option_map number_value found ≡ mode_value Min (map number_value ns)
of_least [] found e = ap (option_map number_value) e
of_least (n ∷ ns) found e = ap (option_map number_value) e ∙ ap (λ v. Some v) (best_mapped Any number_value (is_before int_cmp) is_less (λ x y px py. refl) n ns tt (all_any ns))

pub of_greatest : (ns : List ℤ) (found : Option ℤ) → found ≡ best (is_behind int_cmp) ns → option_map number_value found ≡ mode_value Max (map number_value ns)
of_greatest [] found e = ap (option_map number_value) e
of_greatest (n ∷ ns) found e = ap (option_map number_value) e ∙ ap (λ v. Some v) (best_mapped Any number_value (is_behind int_cmp) is_greater (λ x y px py. refl) n ns tt (all_any ns))

totals : (ns : List ℤ) (z : ℤ) → fold ◌+ℤ◌ z ns ≡ fold (λ sum v. sum +ℤ number_in v) z (map number_value ns)
totals [] z = refl
totals (n ∷ ns) z = totals ns (z +ℤ n)

pub of_sum : (ns : List ℤ) (found : ℤ) → 0 < length ns → found ≡ saturate_signed w64 (fold ◌+ℤ◌ (pos 0) ns) → Some (Number found) ≡ mode_value Sum (map number_value ns)
of_sum [] found some e = absurd (omega arith)
of_sum (n ∷ ns) found some e = ap (λ z. Some (Number z)) (e ∙ ap (saturate_signed w64) (totals (n ∷ ns) (pos 0)))

pub of_mean : (ns : List ℤ) (found : ℤ) → 0 < length ns → found ≡ floor_div (fold ◌+ℤ◌ (pos 0) ns) (length ns) → Some (Number found) ≡ mode_value Avg (map number_value ns)
of_mean [] found some e = absurd (omega arith)
of_mean (n ∷ ns) found some e =
    ap (λ z. Some (Number z))
    (e
    ∙ ap (λ sum. floor_div sum (length (n ∷ ns))) (totals (n ∷ ns) (pos 0))
    ∙ ap (λ count. floor_div (total (map number_value (n ∷ ns))) count) (sym (length-map (n ∷ ns) number_value)))

pub of_median : (ns : List ℤ) (found : ℤ) → 0 < length ns → found ≡ median (map number_value ns) → Some (Number found) ≡ mode_value Median (map number_value ns)
of_median [] found some e = absurd (omega arith)
of_median (n ∷ ns) found some e = ap (λ z. Some (Number z)) e

pub ruleset moded = (of_least, of_greatest, of_sum, of_mean, of_median)
