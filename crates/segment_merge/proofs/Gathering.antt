-- References put together by key, and each then replaced by what it stands for: what they stand for, gathered by key.
use Rattle.std.proofs.Common.{◌≡◌, ◌<◌, Bool, true, false, ◌||◌, List, [], ◌∷◌, ◌++◌, length, map, refl, sym, ap, subst, ◌∙◌, append_assoc, append-nil, arith, nat_lt, length-append}
use Rattle.std.specs.Cmp.{IsTotalOrder}
use Rattle.std.specs.List.{AllByRecursion, filter, flat_map, list_any}
use Rattle.std.specs.List.Sorted.{IsStrictlySortedBy}
use Rattle.std.specs.Ordering.{eq_by_cmp}
use Rattle.std.specs.declared.cmp.Ordering.{Ordering}
use Rattle.std.specs.declared.cmp.Ordering.TheVariants.{Less}
use Rattle.std.proofs.lemmas.Cmp.{eq_by_cmp_equiv}
use Rattle.std.proofs.lemmas.Bool.{lt-ltb, ltb-true}
use Rattle.std.proofs.lemmas.Grind.{flat_map-append}
use Rattle.std.proofs.lemmas.List.{length-map, map-append}
use Rattle.std.proofs.lemmas.Map.Keys.{sorted_head, sorted_tail}
use Rattle.segment.specs.Flat.{has_some}
use Rattle.segment_builder.specs.Groups.{of_key, in_groups, keys, AreGroups}
use Rattle.segment_merge.specs.Merged.{IsGathered}
use Rattle.segment_merge.specs.Pieces.{whole}

-- cases of a test, with its equation
pub split : {C : Type 0} (t : Bool) → (t ≡ true → C) → (t ≡ false → C) → C
split true left right = left refl
split false left right = right refl

-- no list is without elements and with some
some_or_none : {X : Type 0} (xs : List X) → nat_lt 0 (length xs) ≡ false → xs ≡ []
some_or_none [] none = refl
some_or_none (x ∷ xs) none = absurd (let some : nat_lt 0 (length (x ∷ xs)) ≡ true = lt-ltb 0 (length (x ∷ xs)) (omega arith) in let no : true ≡ false = sym some ∙ none in cc (no))

module _ {K : Type 0} (cmp : K → K → Ordering) (o : IsTotalOrder cmp) where
  less_apart : (x y : K) → cmp x y ≡ Less → eq_by_cmp cmp x y ≡ false
  less_apart x y less = rw less refl

  -- ---- groups at a key

  pub none_behind : {P : Type 0} (key first : K) (groups : List (K × List P)) → eq_by_cmp cmp key first ≡ true → AllByRecursion (λ k. cmp first k ≡ Less) (keys groups) → in_groups cmp key groups ≡ []
  none_behind key first [] is behind = refl
  none_behind key first (group ∷ groups) is behind =
      let apart : eq_by_cmp cmp key group.0 ≡ false = (eq_by_cmp_equiv o).congr key first group.0 is ∙ less_apart first group.0 behind.0 in
      rw apart (none_behind key first groups is behind.1)

  same_key : {R : Type 0} (x y : K) (refs : List (K × R)) → eq_by_cmp cmp x y ≡ true → of_key cmp x refs ≡ of_key cmp y refs
  same_key x y [] is = refl
  same_key x y (ref ∷ refs) is = rw ((eq_by_cmp_equiv o).congr x y ref.0 is, same_key x y refs is) refl

  -- a key that no group has is no reference's
  any_same : {P : Type 0} (x y : K) (groups : List (K × List P)) → eq_by_cmp cmp x y ≡ true → list_any (λ (group : K × List P). eq_by_cmp cmp x group.0) groups ≡ list_any (λ (group : K × List P). eq_by_cmp cmp y group.0) groups
  any_same x y [] is = refl
  any_same x y (group ∷ groups) is = rw ((eq_by_cmp_equiv o).congr x y group.0 is, any_same x y groups is) refl

  no_reference : {P R : Type 0} (key : K) (groups : List (K × List P)) (refs : List (K × R)) → list_any (λ (group : K × List P). eq_by_cmp cmp key group.0) groups ≡ false
      → AllByRecursion (λ (ref : K × R). list_any (λ (group : K × List P). eq_by_cmp cmp ref.0 group.0) groups ≡ true) refs → of_key cmp key refs ≡ []
  no_reference key groups [] none found = refl
  no_reference key groups (ref ∷ refs) none found =
      split (eq_by_cmp cmp key ref.0)
      (λ is. absurd (let never : true ≡ false = sym found.0 ∙ sym (any_same key ref.0 groups is) ∙ none in cc (never)))
      (λ isnt. rw isnt (no_reference key groups refs none found.1))

  no_group : {P : Type 0} (key : K) (groups : List (K × List P)) → list_any (λ (group : K × List P). eq_by_cmp cmp key group.0) groups ≡ false → in_groups cmp key groups ≡ []
  no_group key [] none = refl
  no_group {P} key (group ∷ groups) none =
      split (eq_by_cmp cmp key group.0)
      (λ is. absurd (let found : (true || list_any (λ (other : K × List P). eq_by_cmp cmp key other.0) groups) ≡ false = rw is at none in cc (found)))
      (λ isnt. rw isnt (no_group key groups (rw isnt at none)))

  -- groups that each hold what the references of their key do, hold it where one has the key
  some_group : {R : Type 0} (key : K) (groups : List (K × List R)) (refs : List (K × R)) → IsStrictlySortedBy cmp (keys groups) → AllByRecursion (λ (group : K × List R). group.1 ≡ of_key cmp group.0 refs) groups
      → list_any (λ (group : K × List R). eq_by_cmp cmp key group.0) groups ≡ true → in_groups cmp key groups ≡ of_key cmp key refs
  some_group key [] refs up gather any = absurd (cc (any))
  some_group key (group ∷ groups) refs up gather any =
      split (eq_by_cmp cmp key group.0)
      (λ is. rw (is, none_behind key group.0 groups is (sorted_head cmp group.0 (keys groups) up), append-nil group.1) (gather.0 ∙ sym (same_key key group.0 refs is)))
      (λ isnt. rw isnt (some_group key groups refs (sorted_tail cmp group.0 (keys groups) up) gather.1 (rw isnt at any)))

  pub gathered_at : {R : Type 0} (refs : List (K × R)) (groups : List (K × List R)) → AreGroups cmp refs groups → (key : K) → in_groups cmp key groups ≡ of_key cmp key refs
  gathered_at {R} refs groups are key =
      split (list_any (λ (group : K × List R). eq_by_cmp cmp key group.0) groups)
      (λ any. some_group key groups refs are.ordered.ascending are.gather any)
      (λ none. no_group key groups none ∙ sym (no_reference key groups refs none are.found))

  -- ---- what references stand for

  module _ {P R : Type 0} (expand : R → List P) where
    abbrev pub part_of : K × R → K × List P
    part_of ref = (ref.0, expand ref.1)

    abbrev pub whole_of : K × List R → K × List P
    whole_of group = (group.0, flat_map expand group.1)

    in_wholes : (key : K) (groups : List (K × List R)) → in_groups cmp key (map whole_of groups) ≡ flat_map expand (in_groups cmp key groups)
    in_wholes key [] = refl
    in_wholes key (group ∷ groups) =
        split (eq_by_cmp cmp key group.0)
        (λ is. rw (is, in_wholes key groups) (sym (flat_map-append expand group.1 (in_groups cmp key groups))))
        (λ isnt. rw isnt (in_wholes key groups))

    pub in_parts : (key : K) (refs : List (K × R)) → in_groups cmp key (map part_of refs) ≡ flat_map expand (of_key cmp key refs)
    in_parts key [] = refl
    in_parts key (ref ∷ refs) =
        split (eq_by_cmp cmp key ref.0)
        (λ is. rw (is, in_parts key refs) refl)
        (λ isnt. rw isnt (in_parts key refs))

    -- groups without anything are left out
    in_some : (key : K) (groups : List (K × List P)) → in_groups cmp key (filter has_some groups) ≡ in_groups cmp key groups
    in_some key [] = refl
    in_some key (group ∷ groups) =
        split (has_some group)
        (λ some. rw some (
        split (eq_by_cmp cmp key group.0)
        (λ is. rw (is, in_some key groups) refl)
        (λ isnt. rw isnt (in_some key groups))))
        (λ none. rw (none, some_or_none group.1 none) (
        split (eq_by_cmp cmp key group.0)
        (λ is. rw is (in_some key groups))
        (λ isnt. rw isnt (in_some key groups))))

    all_some : (groups : List (K × List P)) → AllByRecursion (λ (group : K × List P). 0 < length group.1) (filter has_some groups)
    all_some [] = tt
    all_some (group ∷ groups) =
        split (has_some group)
        (λ some. rw some (ltb-true 0 (length group.1) some, all_some groups))
        (λ none. rw none (all_some groups))

    less_some : (key : K) (groups : List (K × List R)) → AllByRecursion (λ k. cmp key k ≡ Less) (keys groups) → AllByRecursion (λ k. cmp key k ≡ Less) (keys (filter has_some (map whole_of groups)))
    less_some key [] all = tt
    less_some key (group ∷ groups) all =
        split (has_some (whole_of group))
        (λ some. rw some (all.0, less_some key groups all.1))
        (λ none. rw none (less_some key groups all.1))

    up_some : (groups : List (K × List R)) → IsStrictlySortedBy cmp (keys groups) → IsStrictlySortedBy cmp (keys (filter has_some (map whole_of groups)))
    unfolding IsStrictlySortedBy
    up_some [] up = tt
    up_some (group ∷ groups) up =
        split (has_some (whole_of group))
        (λ some. rw some (less_some group.0 groups up.0, up_some groups up.1))
        (λ none. rw none (up_some groups up.1))

    pub are_gathered : (refs : List (K × R)) (groups : List (K × List R)) → AreGroups cmp refs groups → IsGathered cmp (map part_of refs) (filter has_some (map whole_of groups))
    are_gathered refs groups are = record {
      ordered = record { ascending = up_some groups are.ordered.ascending; some = all_some (map whole_of groups) };
      same = λ key.
          in_some key (map whole_of groups) ∙ in_wholes key groups ∙ ap (flat_map expand) (gathered_at refs groups are key) ∙ sym (in_parts key refs);
    }

  -- ---- lists that are put together as they are, those without anything left out before

  module _ {P : Type 0} where
    in_lists : (key : K) (parts : List (K × List P)) → flat_map (λ list. list) (of_key cmp key (filter has_some parts)) ≡ in_groups cmp key parts
    in_lists key [] = refl
    in_lists key (part ∷ parts) =
        split (has_some part)
        (λ some. rw some (
        split (eq_by_cmp cmp key part.0)
        (λ is. rw (is, in_lists key parts) refl)
        (λ isnt. rw isnt (in_lists key parts))))
        (λ none. rw (none, some_or_none part.1 none) (
        split (eq_by_cmp cmp key part.0)
        (λ is. rw is (in_lists key parts))
        (λ isnt. rw isnt (in_lists key parts))))

    lists_some : (key : K) (parts : List (K × List P)) → AllByRecursion (λ list. 0 < length list) (of_key cmp key (filter has_some parts))
    lists_some key [] = tt
    lists_some key (part ∷ parts) =
        split (has_some part)
        (λ some. rw some (
        split (eq_by_cmp cmp key part.0)
        (λ is. rw is (ltb-true 0 (length part.1) some, lists_some key parts))
        (λ isnt. rw isnt (lists_some key parts))))
        (λ none. rw none (lists_some key parts))

    some_joined : (lists : List (List P)) → 0 < length lists → AllByRecursion (λ list. 0 < length list) lists → 0 < length (flat_map (λ list. list) lists)
    some_joined [] some all = absurd (omega (arith, some))
    some_joined (list ∷ lists) some all = omega (arith, all.0, length-append list (flat_map (λ list. list) lists))

    wholes_some : (parts : List (K × List P)) (groups : List (K × List (List P))) → AllByRecursion (λ (group : K × List (List P)). 0 < length group.1) groups
        → AllByRecursion (λ (group : K × List (List P)). group.1 ≡ of_key cmp group.0 (filter has_some parts)) groups → AllByRecursion (λ (group : K × List P). 0 < length group.1) (map whole groups)
    wholes_some parts [] some gather = tt
    wholes_some parts (group ∷ groups) some gather = (
      some_joined group.1 some.0 (subst (AllByRecursion (λ list. 0 < length list)) (sym gather.0) (lists_some group.0 parts)),
      wholes_some parts groups some.1 gather.1,
    )

    whole_keys : (groups : List (K × List (List P))) → keys (map whole groups) ≡ keys groups
    whole_keys [] = refl
    whole_keys (group ∷ groups) = ap (λ rest. group.0 ∷ rest) (whole_keys groups)

    pub are_whole : (parts : List (K × List P)) (groups : List (K × List (List P))) → AreGroups cmp (filter has_some parts) groups → IsGathered cmp parts (map whole groups)
    are_whole parts groups are = record {
      ordered = record {
        ascending = subst (IsStrictlySortedBy cmp) (sym (whole_keys groups)) are.ordered.ascending;
        some = wholes_some parts groups are.ordered.some are.gather;
      };
      same = λ key. in_wholes (λ list. list) key groups ∙ ap (flat_map (λ list. list)) (gathered_at (filter has_some parts) groups are key) ∙ in_lists key parts;
    }

  -- ---- what is gathered, seen as something else

  module _ {P Q : Type 0} (f : P → Q) where
    abbrev pub seen_as : K × List P → K × List Q
    seen_as group = (group.0, map f group.1)

    in_seen : (key : K) (groups : List (K × List P)) → in_groups cmp key (map seen_as groups) ≡ map f (in_groups cmp key groups)
    in_seen key [] = refl
    in_seen key (group ∷ groups) =
        split (eq_by_cmp cmp key group.0)
        (λ is. rw (is, in_seen key groups) (sym (map-append f group.1 (in_groups cmp key groups))))
        (λ isnt. rw isnt (in_seen key groups))

    seen_keys : (groups : List (K × List P)) → keys (map seen_as groups) ≡ keys groups
    seen_keys [] = refl
    seen_keys (group ∷ groups) = ap (λ rest. group.0 ∷ rest) (seen_keys groups)

    seen_some : (groups : List (K × List P)) → AllByRecursion (λ (group : K × List P). 0 < length group.1) groups → AllByRecursion (λ (group : K × List Q). 0 < length group.1) (map seen_as groups)
    seen_some [] all = tt
    seen_some (group ∷ groups) all = (omega (arith, all.0, length-map group.1 f), seen_some groups all.1)

    pub gathered_as : (parts groups : List (K × List P)) → IsGathered cmp parts groups → IsGathered cmp (map seen_as parts) (map seen_as groups)
    gathered_as parts groups are = record {
      ordered = record {
        ascending = subst (IsStrictlySortedBy cmp) (sym (seen_keys groups)) are.ordered.ascending;
        some = seen_some groups are.ordered.some;
      };
      same = λ key. in_seen key groups ∙ ap (map f) (are.same key) ∙ sym (in_seen key parts);
    }

  -- ---- what a group holds

  pub groups_append : {P : Type 0} (key : K) (groups others : List (K × List P)) → in_groups cmp key (groups ++ others) ≡ in_groups cmp key groups ++ in_groups cmp key others
  groups_append key [] others = refl
  groups_append key (group ∷ groups) others =
      split (eq_by_cmp cmp key group.0)
      (λ is. rw (is, groups_append key groups others) (sym (append_assoc group.1 (in_groups cmp key groups) (in_groups cmp key others))))
      (λ isnt. rw (isnt, groups_append key groups others) refl)

  less_back : (x y : K) → cmp x y ≡ Less → eq_by_cmp cmp y x ≡ false
  less_back x y less = (eq_by_cmp_equiv o).symm y x ∙ less_apart x y less

  lift_own : {P : Type 0} (first : K × List P) (all groups : List (K × List P)) → AllByRecursion (λ k. cmp first.0 k ≡ Less) (keys groups)
      → AllByRecursion (λ (group : K × List P). group.1 ≡ in_groups cmp group.0 all) groups → AllByRecursion (λ (group : K × List P). group.1 ≡ in_groups cmp group.0 (first ∷ all)) groups
  lift_own first all [] behind own = tt
  lift_own first all (group ∷ groups) behind own = (rw (less_back first.0 group.0 behind.0) own.0, lift_own first all groups behind.1 own.1)

  own_groups : {P : Type 0} (groups : List (K × List P)) → IsStrictlySortedBy cmp (keys groups) → AllByRecursion (λ (group : K × List P). group.1 ≡ in_groups cmp group.0 groups) groups
  own_groups [] up = tt
  own_groups (group ∷ groups) up =
      let behind = sorted_head cmp group.0 (keys groups) up in
      let here = (eq_by_cmp_equiv o).refl group.0 in
      (rw (here, none_behind group.0 group.0 groups here behind) (sym (append-nil group.1)), lift_own group groups groups behind (own_groups groups (sorted_tail cmp group.0 (keys groups) up)))

  all_same : {P : Type 0} (parts all groups : List (K × List P)) → ((key : K) → in_groups cmp key all ≡ in_groups cmp key parts) → AllByRecursion (λ (group : K × List P). group.1 ≡ in_groups cmp group.0 all) groups
      → AllByRecursion (λ (group : K × List P). group.1 ≡ in_groups cmp group.0 parts) groups
  all_same parts all [] same own = tt
  all_same parts all (group ∷ groups) same own = (own.0 ∙ same group.0, all_same parts all groups same own.1)

  pub own_gathered : {P : Type 0} (parts groups : List (K × List P)) → IsGathered cmp parts groups → AllByRecursion (λ (group : K × List P). group.1 ≡ in_groups cmp group.0 parts) groups
  own_gathered parts groups are = all_same parts groups groups are.same (own_groups groups are.ordered.ascending)
