-- Groups whose keys and members are seen as others are groups of the entries seen so.
use Rattle.std.proofs.Common.{◌≡◌, ◌<◌, Bool, true, false, List, [], ◌∷◌, length, map, refl, sym, ap, subst, ◌∙◌, arith, Vec}
use Rattle.std.specs.List.{AllByRecursion, list_any}
use Rattle.std.specs.List.Sorted.{IsStrictlySortedBy}
use Rattle.std.specs.Ordering.{eq_by_cmp}
use Rattle.std.specs.declared.cmp.Ordering.{Ordering}
use Rattle.std.specs.declared.cmp.Ordering.TheVariants.{Less}
use Rattle.std.proofs.lemmas.List.{length-map}
use Rattle.segment_builder.specs.Groups.{of_key, keys, groups_seen, AreGroups}

split : {C : Type 0} (t : Bool) → (t ≡ true → C) → (t ≡ false → C) → C
split true left right = left refl
split false left right = right refl

module _ {K L P Q : Type 0} (cmp : K → K → Ordering) (other : L → L → Ordering) (h : K → L) (f : P → Q) (same : (a b : K) → cmp a b ≡ other (h a) (h b)) where
  abbrev pub entry_as : K × P → L × Q
  entry_as entry = (h entry.0, f entry.1)

  abbrev pub group_as : K × List P → L × List Q
  group_as group = (h group.0, map f group.1)

  pub key_as : (key : K) (entries : List (K × P)) → of_key other (h key) (map entry_as entries) ≡ map f (of_key cmp key entries)
  key_as key [] = refl
  key_as key (entry ∷ entries) =
      rw (same key entry.0)
      (split (eq_by_cmp other (h key) (h entry.0))
      (λ is. rw (is, key_as key entries) refl)
      (λ isnt. rw (isnt, key_as key entries) refl))

  less_as : (key : K) (groups : List (K × List P)) → AllByRecursion (λ k. cmp key k ≡ Less) (keys groups) → AllByRecursion (λ l. other (h key) l ≡ Less) (keys (map group_as groups))
  less_as key [] all = tt
  less_as key (group ∷ groups) all = (sym (same key group.0) ∙ all.0, less_as key groups all.1)

  up_as : (groups : List (K × List P)) → IsStrictlySortedBy cmp (keys groups) → IsStrictlySortedBy other (keys (map group_as groups))
  unfolding IsStrictlySortedBy
  up_as [] up = tt
  up_as (group ∷ groups) up = (less_as group.0 groups up.0, up_as groups up.1)

  some_as : (groups : List (K × List P)) → AllByRecursion (λ (group : K × List P). 0 < length group.1) groups → AllByRecursion (λ (group : L × List Q). 0 < length group.1) (map group_as groups)
  some_as [] all = tt
  some_as (group ∷ groups) all = (omega (arith, all.0, length-map group.1 f), some_as groups all.1)

  gather_as : (entries : List (K × P)) (groups : List (K × List P)) → AllByRecursion (λ (group : K × List P). group.1 ≡ of_key cmp group.0 entries) groups
      → AllByRecursion (λ (group : L × List Q). group.1 ≡ of_key other group.0 (map entry_as entries)) (map group_as groups)
  gather_as entries [] all = tt
  gather_as entries (group ∷ groups) all = (ap (map f) all.0 ∙ sym (key_as group.0 entries), gather_as entries groups all.1)

  any_as : (key : K) (groups : List (K × List P)) → list_any (λ (group : L × List Q). eq_by_cmp other (h key) group.0) (map group_as groups) ≡ list_any (λ (group : K × List P). eq_by_cmp cmp key group.0) groups
  any_as key [] = refl
  any_as key (group ∷ groups) = rw (same key group.0, any_as key groups) refl

  found_as : (groups : List (K × List P)) (entries : List (K × P)) → AllByRecursion (λ (entry : K × P). list_any (λ (group : K × List P). eq_by_cmp cmp entry.0 group.0) groups ≡ true) entries
      → AllByRecursion (λ (entry : L × Q). list_any (λ (group : L × List Q). eq_by_cmp other entry.0 group.0) (map group_as groups) ≡ true) (map entry_as entries)
  found_as groups [] all = tt
  found_as groups (entry ∷ entries) all = (any_as entry.0 groups ∙ all.0, found_as groups entries all.1)

  pub regrouped : (entries : List (K × P)) (groups : List (K × List P)) → AreGroups cmp entries groups → AreGroups other (map entry_as entries) (map group_as groups)
  regrouped entries groups are = record {
    ordered = record { ascending = up_as groups are.ordered.ascending; some = some_as groups are.ordered.some };
    gather = gather_as entries groups are.gather;
    found = found_as groups entries are.found;
  }

  -- the same of groups as vectors keep them
  abbrev pub vec_group_as : {A : Type 0} → K × Vec P A → L × List Q
  vec_group_as {A} group = (h group.0, map f group.1.items)

  seen_as : {A : Type 0} (groups : List (K × Vec P A)) → map group_as (groups_seen groups) ≡ map vec_group_as groups
  seen_as [] = refl
  seen_as (group ∷ groups) = ap (λ (rest : List (L × List Q)). vec_group_as group ∷ rest) (seen_as groups)

  pub regrouped_seen : {A : Type 0} (entries : List (K × P)) (groups : List (K × Vec P A)) → AreGroups cmp entries (groups_seen groups) → AreGroups other (map entry_as entries) (map vec_group_as groups)
  regrouped_seen entries groups are = subst (AreGroups other (map entry_as entries)) (seen_as groups) (regrouped entries (groups_seen groups) are)
