-- Groups of the entries of all documents say of each document what it carries.
use Rattle.std.proofs.Common.{◌≡◌, ℕ, ◌<◌, true, List, [], ◌∷◌, ◌++◌, length, nat_lt, refl, sym, ap, subst, ◌∙◌, arith}
use Rattle.std.specs.List.{All, AllByRecursion, list_any}
use Rattle.std.specs.List.Sorted.{IsStrictlySortedBy}
use Rattle.std.specs.Ordering.{is_eq, eq_by_cmp}
use Rattle.std.specs.declared.cmp.Ordering.{Ordering}
use Rattle.std.specs.declared.cmp.Ordering.TheVariants.{Less, Equal, Greater}
use Rattle.std.proofs.lemmas.Cmp.{eq_by_cmp_equiv}
use Rattle.std.proofs.lemmas.List.Elements.{All-tail}
use Rattle.std.proofs.lemmas.Map.Keys.{sorted_head, sorted_tail}
use Rattle.doc_values.specs.Values.{values_of}
use Rattle.segment_builder.specs.Groups.{of_key, keys, AreGroups}
use Rattle.segment_builder.proofs.Keys.{split}
use Rattle.segment_builder.proofs.Merged.{IsExact, find, AreIn, AreSome, at_document, merged, less_back}

-- ---- element by element

pub each_by : {X : Type 0} (P : X → Type 0) (xs : List X) → All P xs → AllByRecursion P xs
each_by P [] all = tt
each_by P (x ∷ xs) all = (all 0 x (omega arith), each_by P xs (All-tail P x xs all))

pub each_of : {X : Type 0} (P : X → Type 0) → ((x : X) → P x) → (xs : List X) → AllByRecursion P xs
each_of P all [] = tt
each_of P all (x ∷ xs) = (all x, each_of P all xs)

pub each_right : {X : Type 0} (P : X → Type 0) (xs ys : List X) → AllByRecursion P (xs ++ ys) → AllByRecursion P ys
each_right P [] ys all = all
each_right P (x ∷ xs) ys all = each_right P xs ys all.1

pub each_left : {X : Type 0} (P : X → Type 0) (xs ys : List X) → AllByRecursion P (xs ++ ys) → AllByRecursion P xs
each_left P [] ys all = tt
each_left P (x ∷ xs) ys all = (all.0, each_left P xs ys all.1)

pub each_then : {X : Type 0} (P Q : X → Type 0) → ((x : X) → P x → Q x) → (xs : List X) → AllByRecursion P xs → AllByRecursion Q xs
each_then P Q goes [] all = tt
each_then P Q goes (x ∷ xs) all = (goes x all.0, each_then P Q goes xs all.1)

-- ---- each key stands once

pub values_some : {X : Type 0} (key doc : ℕ) (rows : List (ℕ × List X)) → nat_lt 0 (length (values_of doc rows)) ≡ true → 0 < length rows
values_some key doc [] some = absurd (cc (some))
values_some key doc (row ∷ rows) some = omega arith

equal_from : (a : Ordering) → is_eq a ≡ true → a ≡ Equal
equal_from Less h = absurd (cc (h))
equal_from Equal h = refl
equal_from Greater h = absurd (cc (h))

module _ {K : Type 0} (cmp : K → K → Ordering) (o : IsExact cmp) where
  lift_entries : {X : Type 0} (first : K × List X) (all entries : List (K × List X)) → AllByRecursion (λ k. cmp first.0 k ≡ Less) (keys entries)
      → AllByRecursion (λ (entry : K × List X). find cmp o entry.0 all ≡ entry.1) entries → AllByRecursion (λ (entry : K × List X). find cmp o entry.0 (first ∷ all) ≡ entry.1) entries
  lift_entries first all [] behind own = tt
  lift_entries first all (entry ∷ entries) behind own =
      (rw (less_back cmp o first.0 entry.0 behind.0) own.0, lift_entries first all entries behind.1 own.1)

  own_entry : {X : Type 0} (entries : List (K × List X)) → IsStrictlySortedBy cmp (keys entries) → AllByRecursion (λ (entry : K × List X). find cmp o entry.0 entries ≡ entry.1) entries
  own_entry [] up = tt
  own_entry (entry ∷ entries) up =
      let behind = sorted_head cmp entry.0 (keys entries) up in
      (rw ((eq_by_cmp_equiv o.total).refl entry.0) refl, lift_entries entry entries entries behind (own_entry entries (sorted_tail cmp entry.0 (keys entries) up)))

  -- a key that some entry has is the key of a group
  pub found_at : {P Y : Type 0} (groups : List (K × Y)) (key : K) (entries : List (K × P)) → AllByRecursion (λ (entry : K × P). list_any (λ (group : K × Y). eq_by_cmp cmp entry.0 group.0) groups ≡ true) entries
      → 0 < length (of_key cmp key entries) → list_any (λ (group : K × Y). eq_by_cmp cmp key group.0) groups ≡ true
  found_at groups key [] found some = absurd (omega (arith, some))
  found_at {P} {Y} groups key (entry ∷ entries) found some =
      split (eq_by_cmp cmp key entry.0)
      (λ is. subst (λ k. list_any (λ (group : K × Y). eq_by_cmp cmp k group.0) groups ≡ true) (sym (o.same key entry.0 (equal_from (cmp key entry.0) is))) found.0)
      (λ isnt. found_at groups key entries found.1 (rw isnt at some))

  module _ {X : Type 0} (groups : List (K × List (ℕ × List X))) (all : List (K × (ℕ × List X))) (doc : ℕ) (entries : List (K × List X))
      (says : (key : K) → values_of doc (of_key cmp key all) ≡ find cmp o key entries) (are : AreGroups cmp all groups) where
    groups_say : (some : List (K × List (ℕ × List X))) → AllByRecursion (λ (group : K × List (ℕ × List X)). group.1 ≡ of_key cmp group.0 all) some
        → AllByRecursion (λ (group : K × List (ℕ × List X)). values_of doc group.1 ≡ find cmp o group.0 entries) some
    groups_say [] gathers = tt
    groups_say (group ∷ some) gathers = (ap (values_of doc) gathers.0 ∙ says group.0, groups_say some gathers.1)

    are_there : (some : List (K × List X)) → AreSome cmp o some → AllByRecursion (λ (entry : K × List X). find cmp o entry.0 entries ≡ entry.1) some → AreIn cmp o groups some
    are_there [] full own = tt
    are_there (entry ∷ some) full own =
        let values : values_of doc (of_key cmp entry.0 all) ≡ entry.1 = says entry.0 ∙ own.0 in
        let rows : 0 < length (of_key cmp entry.0 all) = values_some doc doc (of_key cmp entry.0 all) (ap (λ vs. nat_lt 0 (length vs)) values ∙ full.0) in
        (found_at groups entry.0 all are.found rows, are_there some full.1 own.1)

    pub shown : IsStrictlySortedBy cmp (keys entries) → AreSome cmp o entries → at_document cmp o doc groups ≡ entries
    shown rise some =
        merged cmp o doc groups entries are.ordered.ascending rise some (groups_say groups are.gather) (are_there entries some (own_entry entries rise))
