-- A field among the fields of groups in order, and groups with one more entry of a field.
use Rattle.std.proofs.Common.{◌≡◌, ℕ, zero, suc, ◌+◌, ◌<◌, ◌≤◌, true, List, [], ◌∷◌, ◌++◌, length, get_or, slice_get, slice_index, slice_set, Some, inl, inr, refl, sym, ap, subst, ◌∙◌, append_assoc, append-nil, arith, Vec}
use Rattle.std.specs.List.{AllByRecursion, insert}
use Rattle.std.specs.List.Sorted.{IsStrictlySortedBy}
use Rattle.std.specs.Ordering.{eq_by_cmp, nat_cmp}
use Rattle.std.specs.declared.cmp.Ordering.TheVariants.{Less, Equal, Greater}
use Rattle.std.proofs.lemmas.Bool.{cases_lt}
use Rattle.std.proofs.lemmas.Bool.Decides.{nat_tests}
use Rattle.std.proofs.lemmas.List.{get_or-map, length-append, length-map}
use Rattle.std.proofs.lemmas.Map.Keys.{below_from_sorted}
use Rattle.std.proofs.lemmas.Option.{slice_get-get_or}
use Rattle.segment_builder.specs.Groups.{of_key, in_groups, groups_seen, keys, AreOrdered}
use Rattle.segment_builder.proofs.Keys.{split}

-- ---- among fields in order

pub all_below : (fields : List ℕ) (field middle : ℕ) → IsStrictlySortedBy nat_cmp fields → middle < length fields → slice_index fields middle < field → (at : ℕ) → at < middle + 1 → slice_index fields at < field
all_below fields field middle up within below at before =
    elim (cases_lt at middle) [
      | inl less ↦ omega (arith, below, below_from_sorted fields at middle 0 up less within)
      | inr from ↦ let same : at ≡ middle = omega (arith, before, from) in rw same below
    ]

pub all_above : (fields : List ℕ) (field middle : ℕ) → IsStrictlySortedBy nat_cmp fields → field < slice_index fields middle → (at : ℕ) → middle ≤ at → at < length fields → field < slice_index fields at
all_above fields field middle up above at behind within =
    elim (cases_lt middle at) [
      | inl more ↦ omega (arith, above, below_from_sorted fields middle at 0 up more within)
      | inr upto ↦ let same : at ≡ middle = omega (arith, behind, upto) in rw same above
    ]

pub field_at : {Y : Type 0} (groups : List (ℕ × Y)) (at : ℕ) (d : ℕ × Y) → at < length groups → slice_index (keys groups) at ≡ (get_or groups at d).0
field_at {Y} groups at d within = get_or-map (λ (group : ℕ × Y). group.0) groups at d 0 within

pub field_count : {Y : Type 0} (groups : List (ℕ × Y)) → length (keys groups) ≡ length groups
field_count {Y} groups = length-map groups (λ (group : ℕ × Y). group.0)

less_nat : (x y : ℕ) → x < y → nat_cmp x y ≡ Less
less_nat x y less = grind (arith, nat_tests)

pub same_nat : (x y : ℕ) → eq_by_cmp nat_cmp x y ≡ true → x ≡ y
same_nat x y same = grind (arith, nat_tests)

pub from_less : (x y : ℕ) → Less ≡ nat_cmp x y → x < y
from_less x y less = grind (arith, nat_tests)

pub from_equal : (x y : ℕ) → Equal ≡ nat_cmp x y → x ≡ y
from_equal x y same = grind (arith, nat_tests)

pub from_greater : (x y : ℕ) → Greater ≡ nat_cmp x y → y < x
from_greater x y more = grind (arith, nat_tests)

pub gathered_all : {P : Type 0} (any : ℕ) (old whole : List P) (left : List (ℕ × P)) → length left ≡ 0 → old ++ of_key nat_cmp any left ≡ whole → old ≡ whole
gathered_all any old whole [] none is = sym (append-nil old) ∙ is
gathered_all any old whole (entry ∷ left) none is = absurd (omega (arith, none))

-- ---- one more entry

module _ {P A : Type 0} where
  pub seen_keys : (groups : List (ℕ × Vec P A)) → keys (groups_seen groups) ≡ keys groups
  seen_keys [] = refl
  seen_keys (group ∷ groups) = ap (λ fields. group.0 ∷ fields) (seen_keys groups)

  above_all : (field : ℕ) (groups : List (ℕ × Vec P A)) → ((at : ℕ) → at < length groups → field < slice_index (keys groups) at) → AllByRecursion (λ other. nat_cmp field other ≡ Less) (keys (groups_seen groups))
  above_all field [] above = tt
  above_all field (group ∷ groups) above =
      (less_nat field group.0 (above 0 (omega arith)), above_all field groups (λ at within. above (suc at) (omega (arith, within))))

  none_at : (any field : ℕ) (groups : List (ℕ × Vec P A)) → eq_by_cmp nat_cmp any field ≡ true → AllByRecursion (λ other. nat_cmp field other ≡ Less) (keys (groups_seen groups)) → in_groups nat_cmp any (groups_seen groups) ≡ []
  none_at any field [] same above = refl
  none_at any field (group ∷ groups) same above =
      let less : nat_cmp any group.0 ≡ Less = ap (λ n. nat_cmp n group.0) (same_nat any field same) ∙ above.0 in
      rw less (none_at any field groups same above.1)

  more_here : (any field : ℕ) (member : P) (old new : Vec P A) (groups : List (ℕ × Vec P A)) → new.items ≡ old.items ++ member ∷ [] → AllByRecursion (λ other. nat_cmp field other ≡ Less) (keys (groups_seen groups))
      → in_groups nat_cmp any (groups_seen ((field, new) ∷ groups)) ≡ in_groups nat_cmp any (groups_seen ((field, old) ∷ groups)) ++ of_key nat_cmp any ((field, member) ∷ [])
  more_here any field member old new groups long above =
      split (eq_by_cmp nat_cmp any field)
      (λ is. rw (is, none_at any field groups is above, long) (simp (append_assoc, append-nil)))
      (λ isnt. rw isnt (simp append-nil))

  more_at : (any field : ℕ) (member : P) (old new : Vec P A) (groups : List (ℕ × Vec P A)) (place : ℕ) → slice_get groups place ≡ Some (field, old) → new.items ≡ old.items ++ member ∷ [] → IsStrictlySortedBy nat_cmp (keys (groups_seen groups))
      → in_groups nat_cmp any (groups_seen (slice_set groups place (field, new))) ≡ in_groups nat_cmp any (groups_seen groups) ++ of_key nat_cmp any ((field, member) ∷ [])
  unfolding IsStrictlySortedBy
  more_at any field member old new [] place is long up = absurd (cc (is))
  more_at any field member old new (group ∷ groups) zero is long up =
      let same : group ≡ (field, old) = cc (is) in
      rw same (more_here any field member old new groups long (subst (λ g. AllByRecursion (λ other. nat_cmp g.0 other ≡ Less) (keys (groups_seen groups))) same up.0))
  more_at any field member old new (group ∷ groups) (suc place) is long up =
      let rest = more_at any field member old new groups place is long up.1 in
      split (eq_by_cmp nat_cmp any group.0)
      (λ own. rw (own, rest) (sym (append_assoc group.1.items (in_groups nat_cmp any (groups_seen groups)) (of_key nat_cmp any ((field, member) ∷ [])))))
      (λ other. rw (other, rest) refl)

  pub more_in : (any field : ℕ) (member : P) (old : ℕ × Vec P A) (new : Vec P A) (groups : List (ℕ × Vec P A)) (place : ℕ) → place < length groups → old ≡ get_or groups place old → slice_index (keys groups) place ≡ field → new.items ≡ old.1.items ++ member ∷ []
      → AreOrdered nat_cmp (groups_seen groups) → in_groups nat_cmp any (groups_seen (slice_set groups place (old.0, new))) ≡ in_groups nat_cmp any (groups_seen groups) ++ of_key nat_cmp any ((field, member) ∷ [])
  more_in any field member old new groups place within here at long up =
      let own : old.0 ≡ field = ap (λ (group : ℕ × Vec P A). group.0) here ∙ sym (field_at groups place old within) ∙ at in
      subst (λ n. in_groups nat_cmp any (groups_seen (slice_set groups place (old.0, new))) ≡ in_groups nat_cmp any (groups_seen groups) ++ of_key nat_cmp any ((n, member) ∷ [])) own
      (more_at any old.0 member old.1 new groups place (slice_get-get_or groups place old within ∙ ap Some (sym here)) long up.ascending)

  inserted_here : (any field : ℕ) (member : P) (members : Vec P A) (groups : List (ℕ × Vec P A)) → members.items ≡ member ∷ [] → AllByRecursion (λ other. nat_cmp field other ≡ Less) (keys (groups_seen groups))
      → in_groups nat_cmp any (groups_seen ((field, members) ∷ groups)) ≡ in_groups nat_cmp any (groups_seen groups) ++ of_key nat_cmp any ((field, member) ∷ [])
  inserted_here any field member members groups one above =
      split (eq_by_cmp nat_cmp any field)
      (λ is. rw (is, none_at any field groups is above, one) refl)
      (λ isnt. rw isnt (simp append-nil))

  pub inserted_in : (any field : ℕ) (member : P) (members : Vec P A) (groups : List (ℕ × Vec P A)) (gap : ℕ) → members.items ≡ member ∷ [] → gap ≤ length groups → ((at : ℕ) → gap ≤ at → at < length groups → field < slice_index (keys groups) at)
      → in_groups nat_cmp any (groups_seen (insert groups gap (field, members))) ≡ in_groups nat_cmp any (groups_seen groups) ++ of_key nat_cmp any ((field, member) ∷ [])
  inserted_in any field member members [] gap one within above = let none : gap ≡ 0 = omega (arith, within) in rw none (inserted_here any field member members [] one tt)
  inserted_in any field member members (group ∷ groups) zero one within above = inserted_here any field member members (group ∷ groups) one (above_all field (group ∷ groups) (λ at inside. above at (omega arith) inside))
  inserted_in any field member members (group ∷ groups) (suc gap) one within above =
      let rest = inserted_in any field member members groups gap one (omega (arith, within)) (λ at behind inside. above (suc at) (omega (arith, behind)) (omega (arith, inside))) in
      split (eq_by_cmp nat_cmp any group.0)
      (λ own. rw (own, rest) (sym (append_assoc group.1.items (in_groups nat_cmp any (groups_seen groups)) (of_key nat_cmp any ((field, member) ∷ [])))))
      (λ other. rw (other, rest) refl)

  -- ---- in order still

  keys_kept : (field : ℕ) (old new : Vec P A) (groups : List (ℕ × Vec P A)) (place : ℕ) → slice_get groups place ≡ Some (field, old) → keys (groups_seen (slice_set groups place (field, new))) ≡ keys (groups_seen groups)
  keys_kept field old new [] place is = absurd (cc (is))
  keys_kept field old new (group ∷ groups) zero is = let same : group ≡ (field, old) = cc (is) in rw same refl
  keys_kept field old new (group ∷ groups) (suc place) is = ap (λ fields. group.0 ∷ fields) (keys_kept field old new groups place is)

  some_kept : (field : ℕ) (new : Vec P A) (groups : List (ℕ × Vec P A)) (place : ℕ) → 0 < length new.items → AllByRecursion (λ (group : ℕ × List P). 0 < length group.1) (groups_seen groups)
      → AllByRecursion (λ (group : ℕ × List P). 0 < length group.1) (groups_seen (slice_set groups place (field, new)))
  some_kept field new [] place some all = tt
  some_kept field new (group ∷ groups) zero some all = (some, all.1)
  some_kept field new (group ∷ groups) (suc place) some all = (all.0, some_kept field new groups place some all.1)

  pub more_ordered : (member : P) (old : ℕ × Vec P A) (new : Vec P A) (groups : List (ℕ × Vec P A)) (place : ℕ) → place < length groups → old ≡ get_or groups place old → new.items ≡ old.1.items ++ member ∷ [] → AreOrdered nat_cmp (groups_seen groups)
      → AreOrdered nat_cmp (groups_seen (slice_set groups place (old.0, new)))
  more_ordered member old new groups place within here long up = record {
    ascending = subst (IsStrictlySortedBy nat_cmp) (sym (keys_kept old.0 old.1 new groups place (slice_get-get_or groups place old within ∙ ap Some (sym here)))) up.ascending;
    some = some_kept old.0 new groups place (omega (arith, ap length long, length-append old.1.items (member ∷ []))) up.some;
  }

  all_inserted : (Q : ℕ → Type 0) (field : ℕ) (members : Vec P A) (groups : List (ℕ × Vec P A)) (gap : ℕ) → Q field → AllByRecursion Q (keys (groups_seen groups)) → AllByRecursion Q (keys (groups_seen (insert groups gap (field, members))))
  all_inserted Q field members [] zero is all = (is, tt)
  all_inserted Q field members [] (suc gap) is all = (is, tt)
  all_inserted Q field members (group ∷ groups) zero is all = (is, all)
  all_inserted Q field members (group ∷ groups) (suc gap) is all = (all.0, all_inserted Q field members groups gap is all.1)

  up_inserted : (field : ℕ) (members : Vec P A) (groups : List (ℕ × Vec P A)) (gap : ℕ) → gap ≤ length groups → ((at : ℕ) → at < gap → slice_index (keys groups) at < field) → ((at : ℕ) → gap ≤ at → at < length groups → field < slice_index (keys groups) at)
      → IsStrictlySortedBy nat_cmp (keys (groups_seen groups)) → IsStrictlySortedBy nat_cmp (keys (groups_seen (insert groups gap (field, members))))
  unfolding IsStrictlySortedBy
  up_inserted field members [] gap within below above up = let none : gap ≡ 0 = omega (arith, within) in rw none (tt, tt)
  up_inserted field members (group ∷ groups) zero within below above up = (above_all field (group ∷ groups) (λ at inside. above at (omega arith) inside), up)
  up_inserted field members (group ∷ groups) (suc gap) within below above up = (
    all_inserted (λ other. nat_cmp group.0 other ≡ Less) field members groups gap (less_nat group.0 field (below 0 (omega arith))) up.0,
    up_inserted field members groups gap (omega (arith, within)) (λ at before. below (suc at) (omega (arith, before))) (λ at behind inside. above (suc at) (omega (arith, behind)) (omega (arith, inside))) up.1,
  )

  some_inserted : (field : ℕ) (members : Vec P A) (groups : List (ℕ × Vec P A)) (gap : ℕ) → 0 < length members.items → AllByRecursion (λ (group : ℕ × List P). 0 < length group.1) (groups_seen groups)
      → AllByRecursion (λ (group : ℕ × List P). 0 < length group.1) (groups_seen (insert groups gap (field, members)))
  some_inserted field members [] zero some all = (some, tt)
  some_inserted field members [] (suc gap) some all = (some, tt)
  some_inserted field members (group ∷ groups) zero some all = (some, all)
  some_inserted field members (group ∷ groups) (suc gap) some all = (all.0, some_inserted field members groups gap some all.1)

  pub inserted_ordered : (field : ℕ) (member : P) (members : Vec P A) (groups : List (ℕ × Vec P A)) (gap : ℕ) → members.items ≡ member ∷ [] → gap ≤ length groups → ((at : ℕ) → at < gap → slice_index (keys groups) at < field) → ((at : ℕ) → gap ≤ at → at < length groups → field < slice_index (keys groups) at)
      → AreOrdered nat_cmp (groups_seen groups) → AreOrdered nat_cmp (groups_seen (insert groups gap (field, members)))
  inserted_ordered field member members groups gap one within below above up = record {
    ascending = up_inserted field members groups gap within below above up.ascending;
    some = some_inserted field members groups gap (omega (arith, ap length one)) up.some;
  }
