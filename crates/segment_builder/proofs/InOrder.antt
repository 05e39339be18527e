-- Groups in order: begun, gone on with, and what they are when every entry is in one.
use Rattle.std.proofs.Common.{◌≡◌, suc, ◌+◌, ◌<◌, true, false, ◌||◌, List, [], ◌∷◌, ◌++◌, length, get_or, refl, sym, ap, subst, ◌∙◌, append-nil, arith, length-append, Vec}
use Rattle.std.specs.Cmp.{IsTotalOrder, IsStrictWeakOrder}
use Rattle.std.specs.List.{AllByRecursion, list_any}
use Rattle.std.specs.List.Sorted.{IsStrictlySortedBy, IsSortedBy}
use Rattle.std.specs.Ordering.{is_lt, is_gt, is_eq, eq_by_cmp, ordering_reverse}
use Rattle.std.specs.declared.cmp.Ordering.{Ordering}
use Rattle.std.specs.declared.cmp.Ordering.TheVariants.{Less, Equal, Greater}
use Rattle.std.proofs.lemmas.Cmp.{eq_by_cmp_equiv}
use Rattle.std.proofs.lemmas.List.{map-append}
use Rattle.std.proofs.lemmas.List.Elements.{recursion_from_All}
use Rattle.std.proofs.lemmas.List.Sorted.{sorted_far}
use Rattle.std.proofs.lemmas.Map.Keys.{sorted_head, sorted_tail}
use Rattle.segment_builder.specs.Groups.{of_key, in_groups, groups_seen, keys, AreOrdered, AreGroups, AreRising, AreUpTo}
use Rattle.segment_builder.proofs.Keys.{split}

pub each_then : {X : Type 0} (P Q : X → Type 0) → ((x : X) → P x → Q x) → (xs : List X) → AllByRecursion P xs → AllByRecursion Q xs
each_then P Q goes [] all = tt
each_then P Q goes (x ∷ xs) all = (goes x all.0, each_then P Q goes xs all.1)

pub each_both : {X : Type 0} (P Q R : X → Type 0) → ((x : X) → P x → Q x → R x) → (xs : List X) → AllByRecursion P xs → AllByRecursion Q xs → AllByRecursion R xs
each_both P Q R goes [] one two = tt
each_both P Q R goes (x ∷ xs) one two = (goes x one.0 two.0, each_both P Q R goes xs one.1 two.1)

each_push : {X : Type 0} (P : X → Type 0) (xs : List X) (x : X) → AllByRecursion P xs → P x → AllByRecursion P (xs ++ x ∷ [])
each_push P [] x all is = (is, tt)
each_push P (y ∷ ys) x all is = (all.0, each_push P ys x all.1 is)

each_last : {X : Type 0} (P : X → Type 0) (xs : List X) (x : X) → AllByRecursion P (xs ++ x ∷ []) → P x
each_last P [] x all = all.0
each_last P (y ∷ ys) x all = each_last P ys x all.1

each_front : {X : Type 0} (P : X → Type 0) (xs : List X) (x : X) → AllByRecursion P (xs ++ x ∷ []) → AllByRecursion P xs
each_front P [] x all = tt
each_front P (y ∷ ys) x all = (all.0, each_front P ys x all.1)

module _ {K : Type 0} (cmp : K → K → Ordering) where
  pub sorted_push : (ks : List K) (k : K) → IsStrictlySortedBy cmp ks → AllByRecursion (λ other. cmp other k ≡ Less) ks → IsStrictlySortedBy cmp (ks ++ k ∷ [])
  unfolding IsStrictlySortedBy
  sorted_push [] k up all = (tt, tt)
  sorted_push (x ∷ xs) k up all = (each_push (λ y. cmp x y ≡ Less) xs k up.0 all.0, sorted_push xs k up.1 all.1)

  sorted_last : (ks : List K) (k : K) → IsStrictlySortedBy cmp (ks ++ k ∷ []) → AllByRecursion (λ other. cmp other k ≡ Less) ks
  unfolding IsStrictlySortedBy
  sorted_last [] k up = tt
  sorted_last (x ∷ xs) k up = (each_last (λ y. cmp x y ≡ Less) xs k up.0, sorted_last xs k up.1)

not_after : (a : Ordering) → is_gt a ≡ false → is_eq a ≡ false → a ≡ Less
not_after Less gt eq = refl
not_after Equal gt eq = absurd (cc (eq))
not_after Greater gt eq = absurd (cc (gt))

pub gt_is : (a b : Ordering) → b ≡ ordering_reverse a → is_lt b ≡ is_gt a
gt_is Less b e = rw e refl
gt_is Equal b e = rw e refl
gt_is Greater b e = rw e refl

pub less_back : {K : Type 0} (cmp : K → K → Ordering) (o : IsTotalOrder cmp) (x y : K) → cmp x y ≡ Less → eq_by_cmp cmp y x ≡ false
less_back cmp o x y less = (eq_by_cmp_equiv o).symm y x ∙ rw less refl

module _ {K P : Type 0} (cmp : K → K → Ordering) (o : IsTotalOrder cmp) where
  abbrev Before : K → List (K × List P) → Type 0
  Before key groups = AllByRecursion (λ (group : K × List P). cmp group.0 key ≡ Less) groups

  before_keys : (key : K) (groups : List (K × List P)) → Before key groups → AllByRecursion (λ other. cmp other key ≡ Less) (keys groups)
  before_keys key [] all = tt
  before_keys key (group ∷ groups) all = (all.0, before_keys key groups all.1)

  keys_before : (key : K) (groups : List (K × List P)) → AllByRecursion (λ other. cmp other key ≡ Less) (keys groups) → Before key groups
  keys_before key [] all = tt
  keys_before key (group ∷ groups) all = (all.0, keys_before key groups all.1)

  keys_push : (groups : List (K × List P)) (group : K × List P) → keys (groups ++ group ∷ []) ≡ keys groups ++ group.0 ∷ []
  keys_push groups group = map-append (λ (g : K × List P). g.0) groups (group ∷ [])

  begun_ordered : (key : K) (members : List P) (groups : List (K × List P)) → 0 < length members → AreOrdered cmp groups → Before key groups → AreOrdered cmp (groups ++ (key, members) ∷ [])
  begun_ordered key members groups some up before = record {
    ascending = subst (IsStrictlySortedBy cmp) (sym (keys_push groups (key, members))) (sorted_push cmp (keys groups) key up.ascending (before_keys key groups before));
    some = each_push (λ (group : K × List P). 0 < length group.1) groups (key, members) up.some some;
  }

  went_on_ordered : (key : K) (members more : List P) (groups : List (K × List P)) → 0 < length more → AreOrdered cmp (groups ++ (key, members) ∷ []) → AreOrdered cmp (groups ++ (key, more) ∷ [])
  went_on_ordered key members more groups some up = record {
    ascending = subst (IsStrictlySortedBy cmp) (keys_push groups (key, members) ∙ sym (keys_push groups (key, more))) up.ascending;
    some = each_push (λ (group : K × List P). 0 < length group.1) groups (key, more) (each_front (λ (group : K × List P). 0 < length group.1) groups (key, members) up.some) some;
  }

  before_others : (last key : K) (members : List P) (groups : List (K × List P)) → AreOrdered cmp (groups ++ (last, members) ∷ []) → AreUpTo cmp key (groups ++ (last, members) ∷ []) → is_eq (cmp last key) ≡ false → Before key (groups ++ (last, members) ∷ [])
  before_others last key members groups up behind apart =
      let less : cmp last key ≡ Less = not_after (cmp last key) (each_last (λ (group : K × List P). is_gt (cmp group.0 key) ≡ false) groups (last, members) behind) apart in
      let all : AllByRecursion (λ other. cmp other last ≡ Less) (keys groups) = sorted_last cmp (keys groups) last (subst (IsStrictlySortedBy cmp) (keys_push groups (last, members)) up.ascending) in
      each_push (λ (group : K × List P). cmp group.0 key ≡ Less) groups (last, members)
      (each_then (λ (group : K × List P). cmp group.0 last ≡ Less) (λ (group : K × List P). cmp group.0 key ≡ Less) (λ group before. o.trans group.0 last key before less) groups (keys_before last groups all))
      less

  up_to_more : (any key : K) (members : List P) (groups : List (K × List P)) → AreUpTo cmp any groups → is_gt (cmp key any) ≡ false → AreUpTo cmp any (groups ++ (key, members) ∷ [])
  up_to_more any key members groups all is = each_push (λ (group : K × List P). is_gt (cmp group.0 any) ≡ false) groups (key, members) all is

  up_to_same : (any key : K) (members more : List P) (groups : List (K × List P)) → AreUpTo cmp any (groups ++ (key, members) ∷ []) → AreUpTo cmp any (groups ++ (key, more) ∷ [])
  up_to_same any key members more groups all =
      each_push (λ (group : K × List P). is_gt (cmp group.0 any) ≡ false) groups (key, more) (each_front (λ (group : K × List P). is_gt (cmp group.0 any) ≡ false) groups (key, members) all)
      (each_last (λ (group : K × List P). is_gt (cmp group.0 any) ≡ false) groups (key, members) all)

  -- ---- as vectors keep groups

  seen_push : {A : Type 0} (new old : List (K × Vec P A)) (key : K) (members : Vec P A) → new ≡ old ++ (key, members) ∷ [] → groups_seen new ≡ groups_seen old ++ (key, members.items) ∷ []
  seen_push {A} new old key members is = ap (λ (gs : List (K × Vec P A)). groups_seen gs) is ∙ map-append (λ (group : K × Vec P A). (group.0, group.1.items)) old ((key, members) ∷ [])

  pub begun_groups : {A : Type 0} (key : K) (member : P) (new old : List (K × Vec P A)) (members : Vec P A) → new ≡ old ++ (key, members) ∷ [] → members.items ≡ member ∷ []
      → AreOrdered cmp (groups_seen old) → Before key (groups_seen old) → AreOrdered cmp (groups_seen new)
  begun_groups key member new old members is one up before =
      subst (AreOrdered cmp) (sym (seen_push new old key members is))
      (begun_ordered key members.items (groups_seen old) (omega (arith, ap length one)) up before)

  pub begun_up_to : {A : Type 0} (any key : K) (new old : List (K × Vec P A)) (members : Vec P A) → new ≡ old ++ (key, members) ∷ [] → AreUpTo cmp any (groups_seen old) → is_gt (cmp key any) ≡ false → AreUpTo cmp any (groups_seen new)
  begun_up_to any key new old members is all up =
      subst (AreUpTo cmp any) (sym (seen_push new old key members is)) (up_to_more any key members.items (groups_seen old) all up)

  pub went_on_groups : {A : Type 0} (last : K) (member : P) (old rest new : List (K × Vec P A)) (members more : Vec P A)
      → old ≡ rest ++ (last, members) ∷ [] → more.items ≡ members.items ++ member ∷ [] → new ≡ rest ++ (last, more) ∷ [] → AreOrdered cmp (groups_seen old) → AreOrdered cmp (groups_seen new)
  went_on_groups last member old rest new members more was long is up =
      subst (AreOrdered cmp) (sym (seen_push new rest last more is))
      (went_on_ordered last members.items more.items (groups_seen rest) (omega (arith, ap length long, length-append members.items (member ∷ []))) (subst (AreOrdered cmp) (seen_push old rest last members was) up))

  pub went_on_up_to : {A : Type 0} (any last : K) (old rest new : List (K × Vec P A)) (members more : Vec P A)
      → old ≡ rest ++ (last, members) ∷ [] → new ≡ rest ++ (last, more) ∷ [] → AreUpTo cmp any (groups_seen old) → AreUpTo cmp any (groups_seen new)
  went_on_up_to any last old rest new members more was is all =
      subst (AreUpTo cmp any) (sym (seen_push new rest last more is))
      (up_to_same any last members.items more.items (groups_seen rest) (subst (AreUpTo cmp any) (seen_push old rest last members was) all))

  pub before_in : {A : Type 0} (last key : K) (old rest : List (K × Vec P A)) (members : Vec P A) → old ≡ rest ++ (last, members) ∷ [] → AreOrdered cmp (groups_seen old) → AreUpTo cmp key (groups_seen old) → eq_by_cmp cmp last key ≡ false
      → AllByRecursion (λ (group : K × List P). cmp group.0 key ≡ Less) (groups_seen old)
  before_in last key old rest members was up behind apart =
      let is = seen_push old rest last members was in
      subst (Before key) (sym is) (before_others last key members.items (groups_seen rest) (subst (AreOrdered cmp) is up) (subst (AreUpTo cmp key) is behind) apart)

  -- ---- one entry after the other

  abbrev pub AreBehind : List (K × P) → List (K × List P) → Type 0
  AreBehind entries groups = AllByRecursion (λ (entry : K × P). AreUpTo cmp entry.0 groups) entries

  pub behind_on : (entry : K × P) (left rest : List (K × P)) (old new : List (K × List P)) → left ≡ entry ∷ rest → ((any : K) → AreUpTo cmp any old → is_gt (cmp entry.0 any) ≡ false → AreUpTo cmp any new) → AreRising cmp left → AreBehind left old → AreBehind rest new
  behind_on entry left rest old new is more rising behind =
      let up : AreRising cmp (entry ∷ rest) = subst (AreRising cmp) is rising in
      let all : AreBehind (entry ∷ rest) old = subst (λ es. AreBehind es old) is behind in
      each_both (λ (other : K × P). AreUpTo cmp other.0 old) (λ (other : K × P). is_gt (cmp entry.0 other.0) ≡ false) (λ (other : K × P). AreUpTo cmp other.0 new) (λ other was later. more other.0 was later) rest all.1 up.0

  pub rising_on : (entry : K × P) (left rest : List (K × P)) → left ≡ entry ∷ rest → AreRising cmp left → AreRising cmp rest
  rising_on entry left rest is rising = (subst (AreRising cmp) is rising).1

  pub behind_here : (entry : K × P) (left rest : List (K × P)) (groups : List (K × List P)) → left ≡ entry ∷ rest → AreBehind left groups → AreUpTo cmp entry.0 groups
  behind_here entry left rest groups is behind = (subst (λ es. AreBehind es groups) is behind).0

  none_behind : (entries : List (K × P)) → AreBehind entries []
  none_behind [] = tt
  none_behind (entry ∷ entries) = (tt, none_behind entries)

  pub behind_none : (entries : List (K × P)) (groups : List (K × List P)) → groups ≡ [] → AreBehind entries groups
  behind_none entries groups is = subst (AreBehind entries) (sym is) (none_behind entries)

  no_groups : AreOrdered {P = P} cmp []
  unfolding IsStrictlySortedBy
  no_groups = record { ascending = tt; some = tt }

  pub none_ordered : (groups : List (K × List P)) → groups ≡ [] → AreOrdered cmp groups
  none_ordered groups is = subst (AreOrdered cmp) (sym is) no_groups

  -- what a sort leaves rises
  later_ones : (weak : IsStrictWeakOrder (λ (a b : K × P). is_lt (cmp a.0 b.0))) (entry : K × P) (entries : List (K × P)) → IsSortedBy (λ a b. is_lt (cmp a.0 b.0)) (entry ∷ entries) → AllByRecursion (λ (later : K × P). is_gt (cmp entry.0 later.0) ≡ false) entries
  later_ones weak entry entries up =
      recursion_from_All (λ (later : K × P). is_gt (cmp entry.0 later.0) ≡ false) entries
      (λ k d h.
      let far : is_lt (cmp (get_or entries k d).0 entry.0) ≡ false = sorted_far (λ a b. is_lt (cmp a.0 b.0)) weak (entry ∷ entries) up 0 (suc k) d (omega arith) (omega (arith, h)) in
      sym (gt_is (cmp entry.0 (get_or entries k d).0) (cmp (get_or entries k d).0 entry.0) (o.antisymm (get_or entries k d).0 entry.0)) ∙ far)

  pub risen : (weak : IsStrictWeakOrder (λ (a b : K × P). is_lt (cmp a.0 b.0))) (entries : List (K × P)) → IsSortedBy (λ a b. is_lt (cmp a.0 b.0)) entries → AreRising cmp entries
  risen weak [] up = tt
  risen weak (entry ∷ entries) up = (
    later_ones weak entry entries up,
    risen weak entries (λ k d low high.
        let next : suc k + 1 ≡ suc (k + 1) = omega arith in
        rw next at (up (suc k) d (omega arith) (omega (arith, high)))),
  )

  -- ---- what the groups are in the end

  pub nothing_at : (key : K) (groups : List (K × List P)) → AllByRecursion (λ k. cmp key k ≡ Less) (keys groups) → in_groups cmp key groups ≡ []
  nothing_at key [] behind = refl
  nothing_at key (group ∷ groups) behind = rw behind.0 (nothing_at key groups behind.1)

  lift_own : (first : K × List P) (all groups : List (K × List P)) → AllByRecursion (λ k. cmp first.0 k ≡ Less) (keys groups)
      → AllByRecursion (λ (group : K × List P). in_groups cmp group.0 all ≡ group.1) groups → AllByRecursion (λ (group : K × List P). in_groups cmp group.0 (first ∷ all) ≡ group.1) groups
  lift_own first all [] behind own = tt
  lift_own first all (group ∷ groups) behind own =
      (rw (less_back cmp o first.0 group.0 behind.0) own.0, lift_own first all groups behind.1 own.1)

  pub own_groups : (groups : List (K × List P)) → IsStrictlySortedBy cmp (keys groups) → AllByRecursion (λ (group : K × List P). in_groups cmp group.0 groups ≡ group.1) groups
  own_groups [] up = tt
  own_groups (group ∷ groups) up =
      let behind = sorted_head cmp group.0 (keys groups) up in
      (rw ((eq_by_cmp_equiv o).refl group.0, nothing_at group.0 groups behind) (append-nil group.1), lift_own group groups groups behind (own_groups groups (sorted_tail cmp group.0 (keys groups) up)))

  no_group : (key : K) (groups : List (K × List P)) → list_any (λ (group : K × List P). eq_by_cmp cmp key group.0) groups ≡ false → in_groups cmp key groups ≡ []
  no_group key [] none = refl
  no_group key (group ∷ groups) none =
      split (eq_by_cmp cmp key group.0)
      (λ is. absurd (let found : (true || list_any (λ (other : K × List P). eq_by_cmp cmp key other.0) groups) ≡ false = rw is at none in cc (found)))
      (λ isnt. rw isnt (no_group key groups (rw isnt at none)))

  longer : (key : K) (entry : K × P) (entries : List (K × P)) → 0 < length (of_key cmp key entries) → 0 < length (of_key cmp key (entry ∷ entries))
  longer key entry entries some =
      split (eq_by_cmp cmp key entry.0)
      (λ is. rw is (omega arith))
      (λ isnt. rw isnt some)

  own_some : (entries : List (K × P)) → AllByRecursion (λ (entry : K × P). 0 < length (of_key cmp entry.0 entries)) entries
  own_some [] = tt
  own_some (entry ∷ entries) = (
    rw ((eq_by_cmp_equiv o).refl entry.0) (omega arith),
    each_then (λ (other : K × P). 0 < length (of_key cmp other.0 entries)) (λ (other : K × P). 0 < length (of_key cmp other.0 (entry ∷ entries))) (λ other some. longer other.0 entry entries some) entries (own_some entries),
  )

  pub are_groups : (entries : List (K × P)) (groups : List (K × List P)) → ((key : K) → in_groups cmp key groups ≡ of_key cmp key entries) → AreOrdered cmp groups → AreGroups cmp entries groups
  are_groups entries groups gather up = record {
    ordered = up;
    gather = each_then (λ (group : K × List P). in_groups cmp group.0 groups ≡ group.1) (λ (group : K × List P). group.1 ≡ of_key cmp group.0 entries) (λ group own. sym own ∙ gather group.0) groups (own_groups groups up.ascending);
    found = each_then (λ (entry : K × P). 0 < length (of_key cmp entry.0 entries)) (λ (entry : K × P). list_any (λ (group : K × List P). eq_by_cmp cmp entry.0 group.0) groups ≡ true) (λ entry some. there entry some) entries (own_some entries);
  }
    where
      there : (entry : K × P) → 0 < length (of_key cmp entry.0 entries) → list_any (λ (group : K × List P). eq_by_cmp cmp entry.0 group.0) groups ≡ true
      there entry some =
          split (list_any (λ (group : K × List P). eq_by_cmp cmp entry.0 group.0) groups)
          (λ is. is)
          (λ none. absurd (
          let nothing : of_key cmp entry.0 entries ≡ [] = sym (gather entry.0) ∙ no_group entry.0 groups none in
          omega (arith, some, ap length nothing)))
