-- Entries put together by key, in their order.
use Rattle.std.specs.Prelude.{◌≡◌, ℕ, suc, ◌<◌, true, false, cond, List, [], ◌∷◌, ◌++◌, length, map, Vec}
use Rattle.std.specs.List.{AllByRecursion, list_any}
use Rattle.std.specs.List.Sorted.{IsStrictlySortedBy}
use Rattle.std.specs.Ordering.{eq_by_cmp, is_gt}
use Rattle.std.specs.declared.cmp.Ordering.{Ordering}

-- what entries carry
abbrev pub members : {K P : Type 0} → List (K × P) → List P
members {K} {P} entries = map (λ (entry : K × P). entry.1) entries

module _ {K P : Type 0} (cmp : K → K → Ordering) where
  -- what the entries of a key carry
  abbrev pub of_key : K → List (K × P) → List P
  of_key key [] = []
  of_key key (entry ∷ entries) = cond (eq_by_cmp cmp key entry.0) (entry.1 ∷ of_key key entries) (of_key key entries)

  -- the same of groups
  abbrev pub in_groups : K → List (K × List P) → List P
  in_groups key [] = []
  in_groups key (group ∷ groups) = cond (eq_by_cmp cmp key group.0) (group.1 ++ in_groups key groups) (in_groups key groups)

  -- each entry's key comes before none of the earlier ones
  abbrev pub AreRising : List (K × P) → Type 0
  AreRising [] = Unit {0}
  AreRising (entry ∷ entries) = AllByRecursion (λ (later : K × P). is_gt (cmp entry.0 later.0) ≡ false) entries × AreRising entries

  -- how many entries in front have a key
  abbrev pub run_length : K → List (K × P) → ℕ
  run_length key [] = 0
  run_length key (entry ∷ entries) = cond (eq_by_cmp cmp key entry.0) (suc (run_length key entries)) 0

  -- an entry in front of groups, in the first of them where it has its key
  abbrev pub in_front : K × P → List (K × List P) → List (K × List P)
  in_front entry [] = (entry.0, entry.1 ∷ []) ∷ []
  in_front entry (group ∷ groups) = cond (eq_by_cmp cmp entry.0 group.0) ((entry.0, entry.1 ∷ group.1) ∷ groups) ((entry.0, entry.1 ∷ []) ∷ group ∷ groups)

  -- the groups of entries whose keys rise: each run of a key
  abbrev pub runs : List (K × P) → List (K × List P)
  runs [] = []
  runs (entry ∷ entries) = in_front entry (runs entries)

  -- the key of no group comes after this one
  abbrev pub AreUpTo : K → List (K × List P) → Type 0
  AreUpTo key groups = AllByRecursion (λ (group : K × List P). is_gt (cmp group.0 key) ≡ false) groups

-- the keys of a list
abbrev pub keys : {K Y : Type 0} → List (K × Y) → List K
keys {K} {Y} entries = map (λ (entry : K × Y). entry.0) entries

-- groups by strictly ascending key, none of them empty
pub record AreOrdered {K P : Type 0} (cmp : K → K → Ordering) (groups : List (K × List P)) : Type 0 where
  pub ascending : IsStrictlySortedBy cmp (keys groups)
  pub some : AllByRecursion (λ (group : K × List P). 0 < length group.1) groups

-- Entries put together: by strictly ascending key, each group what the entries of its key carry, and a group for the key
-- of each entry.
pub record AreGroups {K P : Type 0} (cmp : K → K → Ordering) (entries : List (K × P)) (groups : List (K × List P)) : Type 0 where
  pub ordered : AreOrdered cmp groups
  pub gather : AllByRecursion (λ (group : K × List P). group.1 ≡ of_key cmp group.0 entries) groups
  pub found : AllByRecursion (λ (entry : K × P). list_any (λ (group : K × List P). eq_by_cmp cmp entry.0 group.0) groups ≡ true) entries

-- groups as vectors keep them
abbrev pub groups_seen : {K P A : Type 0} → List (K × Vec P A) → List (K × List P)
groups_seen {K} {P} {A} groups = map (λ (group : K × Vec P A). (group.0, group.1.items)) groups
