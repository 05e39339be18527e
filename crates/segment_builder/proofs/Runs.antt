-- The runs of entries whose keys rise: they are groups of the entries, and the first of them ends with its key.
use Rattle.std.proofs.Common.{◌≡◌, ℕ, suc, ◌+◌, ◌<◌, true, false, List, [], ◌∷◌, ◌++◌, length, take, drop, refl, sym, ap, ◌∙◌, arith}
use Rattle.std.specs.Cmp.{IsTotalOrder}
use Rattle.std.specs.List.{AllByRecursion}
use Rattle.std.specs.List.Sorted.{IsStrictlySortedBy}
use Rattle.std.specs.Ordering.{eq_by_cmp, is_eq, is_gt}
use Rattle.std.specs.declared.cmp.Ordering.{Ordering}
use Rattle.std.specs.declared.cmp.Ordering.TheVariants.{Less}
use Rattle.std.proofs.lemmas.Cmp.{eq_by_cmp_equiv}
use Rattle.segment_builder.specs.Groups.{of_key, in_groups, in_front, keys, members, run_length, runs, AreGroups, AreOrdered, AreRising}
use Rattle.segment_builder.proofs.InOrder.{are_groups, each_both, each_then}
use Rattle.segment_builder.proofs.Keys.{of_more, split}
use Rattle.segment_builder.proofs.Sorted.{less_then, sorted_cons, sorted_first, sorted_none, sorted_rest}

module _ {K P : Type 0} (cmp : K → K → Ordering) (o : IsTotalOrder cmp) where
  -- ---- what runs gather

  one_more : (any : K) (entry : K × P) (groups : List (K × List P)) → in_groups cmp any (in_front cmp entry groups) ≡ of_key cmp any (entry ∷ []) ++ in_groups cmp any groups
  one_more any entry [] =
      split (eq_by_cmp cmp any entry.0)
      (λ is. rw is refl)
      (λ isnt. rw isnt refl)
  one_more any entry (group ∷ groups) =
      split (eq_by_cmp cmp entry.0 group.0)
      (λ same.
      let sides : eq_by_cmp cmp any group.0 ≡ eq_by_cmp cmp any entry.0 = (eq_by_cmp_equiv o).symm any group.0 ∙ sym ((eq_by_cmp_equiv o).congr entry.0 group.0 any same) ∙ (eq_by_cmp_equiv o).symm entry.0 any in
      rw (same, sides)
      (split (eq_by_cmp cmp any entry.0)
      (λ is. rw is refl)
      (λ isnt. rw isnt refl)))
      (λ apart.
      rw apart
      (split (eq_by_cmp cmp any entry.0)
      (λ is. rw is refl)
      (λ isnt. rw isnt refl)))

  pub gather : (any : K) (entries : List (K × P)) → in_groups cmp any (runs cmp entries) ≡ of_key cmp any entries
  gather any [] = refl
  gather any (entry ∷ entries) = one_more any entry (runs cmp entries) ∙ ap (λ rest. of_key cmp any (entry ∷ []) ++ rest) (gather any entries) ∙ sym (of_more cmp o any entry entries)

  -- ---- in order

  each_front : (Q : K → Type 0) (entry : K × P) (groups : List (K × List P)) → Q entry.0 → AllByRecursion Q (keys groups) → AllByRecursion Q (keys (in_front cmp entry groups))
  each_front Q entry [] own all = (own, tt)
  each_front Q entry (group ∷ groups) own all =
      split (eq_by_cmp cmp entry.0 group.0)
      (λ same. rw same (own, all.1))
      (λ apart. rw apart (own, all))

  each_run : (Q : K → Type 0) (entries : List (K × P)) → AllByRecursion (λ (entry : K × P). Q entry.0) entries → AllByRecursion Q (keys (runs cmp entries))
  each_run Q [] all = tt
  each_run Q (entry ∷ entries) all = each_front Q entry (runs cmp entries) all.0 (each_run Q entries all.1)

  some_front : (entry : K × P) (groups : List (K × List P)) → AllByRecursion (λ (group : K × List P). 0 < length group.1) groups → AllByRecursion (λ (group : K × List P). 0 < length group.1) (in_front cmp entry groups)
  some_front entry [] all = (omega arith, tt)
  some_front entry (group ∷ groups) all =
      split (eq_by_cmp cmp entry.0 group.0)
      (λ same. rw same (omega arith, all.1))
      (λ apart. rw apart (omega arith, all))

  up_front : (entry : K × P) (groups : List (K × List P)) → IsStrictlySortedBy cmp (keys groups) → AllByRecursion (λ k. is_gt (cmp entry.0 k) ≡ false) (keys groups) → IsStrictlySortedBy cmp (keys (in_front cmp entry groups))
  up_front entry [] up upto = sorted_cons cmp entry.0 [] tt (sorted_none cmp)
  up_front entry (group ∷ groups) up upto =
      let later : AllByRecursion (λ k. cmp group.0 k ≡ Less) (keys groups) = sorted_first cmp group.0 (keys groups) up in
      split (eq_by_cmp cmp entry.0 group.0)
      (λ same.
      rw same
      (sorted_cons cmp entry.0 (keys groups)
      (each_both (λ k. cmp group.0 k ≡ Less) (λ k. is_gt (cmp entry.0 k) ≡ false) (λ k. cmp entry.0 k ≡ Less)
      (λ k less not_behind. less_then (cmp entry.0 k) (cmp entry.0 k) not_behind ((eq_by_cmp_equiv o).congr entry.0 group.0 k same ∙ ap is_eq less)) (keys groups) later upto.1)
      (sorted_rest cmp group.0 (keys groups) up)))
      (λ apart.
      let less : cmp entry.0 group.0 ≡ Less = less_then (cmp entry.0 group.0) (cmp entry.0 group.0) upto.0 apart in
      rw apart
      (sorted_cons cmp entry.0 (group.0 ∷ keys groups)
      (less, each_then (λ k. cmp group.0 k ≡ Less) (λ k. cmp entry.0 k ≡ Less) (λ k behind. o.trans entry.0 group.0 k less behind) (keys groups) later)
      up))

  pub ordered : (entries : List (K × P)) → AreRising cmp entries → AreOrdered cmp (runs cmp entries)
  ordered [] rising = record { ascending = sorted_none cmp; some = tt }
  ordered (entry ∷ entries) rising =
      let rest : AreOrdered cmp (runs cmp entries) = ordered entries rising.1 in
      record {
        ascending = up_front entry (runs cmp entries) rest.ascending (each_run (λ k. is_gt (cmp entry.0 k) ≡ false) entries rising.0);
        some = some_front entry (runs cmp entries) rest.some;
      }

  pub runs_are : (old new : List (K × P)) → ((key : K) → of_key cmp key new ≡ of_key cmp key old) → AreRising cmp new → AreGroups cmp old (runs cmp new)
  runs_are old new same rising = are_groups cmp o old (runs cmp new) (λ key. gather key new ∙ same key) (ordered new rising)

  -- ---- the first run

  same_run : (one other : K) (entries : List (K × P)) → eq_by_cmp cmp one other ≡ true → run_length cmp one entries ≡ run_length cmp other entries
  same_run one other [] same = refl
  same_run one other (entry ∷ entries) same = rw ((eq_by_cmp_equiv o).congr one other entry.0 same, same_run one other entries same) refl

  run_ahead : (first : K × P) (behind : List (K × P))
      → runs cmp (first ∷ behind) ≡ (first.0, first.1 ∷ members (take (run_length cmp first.0 behind) behind)) ∷ runs cmp (drop (run_length cmp first.0 behind) behind)
  run_ahead first [] = refl
  run_ahead first (entry ∷ entries) =
      split (eq_by_cmp cmp first.0 entry.0)
      (λ same. ap (in_front cmp first) (run_ahead entry entries) ∙ rw (same, same_run first.0 entry.0 entries same) refl)
      (λ apart. ap (in_front cmp first) (run_ahead entry entries) ∙ rw apart (ap (λ rest. (first.0, first.1 ∷ []) ∷ rest) (sym (run_ahead entry entries))))

  first_same : (entry : K × P) (entries : List (K × P)) → run_length cmp entry.0 (entry ∷ entries) ≡ suc (run_length cmp entry.0 entries)
  first_same entry entries = rw ((eq_by_cmp_equiv o).refl entry.0) refl

  -- a run that isn't empty goes on behind its first entry
  pub run_behind : (key : K) (entries : List (K × P)) → 0 < run_length cmp key entries → (0 < length entries) × (1 + run_length cmp key (drop 1 entries) ≡ run_length cmp key entries)
  run_behind key [] some = absurd (omega (arith, some))
  run_behind key (entry ∷ entries) some =
      split (eq_by_cmp cmp key entry.0)
      (λ is. (omega arith, rw is (omega arith)))
      (λ isnt. absurd (let none : 0 < 0 = rw isnt at some in omega (arith, none)))

  pub first_run : (entries : List (K × P)) (first : K × P) (behind : List (K × P)) (n : ℕ) → entries ≡ first ∷ behind → n ≡ run_length cmp first.0 entries
      → (0 < n) × (runs cmp entries ≡ (first.0, members (take n entries)) ∷ runs cmp (drop n entries))
  first_run entries first behind n is same =
      let long : n ≡ suc (run_length cmp first.0 behind) = same ∙ ap (run_length cmp first.0) is ∙ first_same first behind in
      (omega (arith, long), rw (is, long) (run_ahead first behind))
