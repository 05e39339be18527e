-- Members that are added to groups by field, and what groups carry in the end.
use Rattle.std.proofs.Common.{◌≡◌, ℕ, ◌<◌, Bool, true, false, List, [], ◌∷◌, ◌++◌, length, map, refl, sym, ap, subst, ◌∙◌, append_assoc, append-nil, arith, Vec}
use Rattle.std.proofs.lemmas.Cmp.{nat_cmp_total}
use Rattle.std.proofs.lemmas.List.{length-map, map-append}
use Rattle.std.specs.List.{AllByRecursion}
use Rattle.std.specs.List.Sorted.{IsStrictlySortedBy}
use Rattle.std.specs.Ordering.{eq_by_cmp, nat_cmp}
use Rattle.segment_builder.specs.Groups.{groups_seen, in_groups, keys, of_key, AreGroups, AreOrdered}
use Rattle.segment_builder.specs.Members.{carried, text_member, AreAdded, AreGathered}
use Rattle.segment_builder.proofs.Assembled.{map_twice}
use Rattle.segment_builder.proofs.AtFields.{group_of, in_mapped}
use Rattle.segment_builder.proofs.Grown.{of_append}
use Rattle.segment_builder.proofs.InOrder.{are_groups, each_both, none_ordered, own_groups}
use Rattle.segment_builder.proofs.Inserted.{same_nat}
use Rattle.segment_builder.proofs.Keys.{of_more, split}

one_seen : {E F : Type 0} (seen : E → F) (f g : ℕ) (member : E) → map seen (of_key nat_cmp f ((g, member) ∷ [])) ≡ of_key nat_cmp f ((g, seen member) ∷ [])
one_seen seen f g member =
    split (eq_by_cmp nat_cmp f g)
    (λ is. rw is refl)
    (λ isnt. rw isnt refl)

none_other : {F : Type 0} (test : ℕ → Bool) (f : ℕ) (entries : List (ℕ × F)) → AllByRecursion (λ (entry : ℕ × F). test entry.0 ≡ true) entries → test f ≡ false → of_key nat_cmp f entries ≡ []
none_other test f [] all isnt = refl
none_other test f (entry ∷ entries) all isnt =
    split (eq_by_cmp nat_cmp f entry.0)
    (λ is. absurd (let never : true ≡ false = sym all.0 ∙ ap test (sym (same_nat f entry.0 is)) ∙ isnt in cc (never)))
    (λ other. rw other (none_other test f entries all.1 isnt))

module _ {E F A : Type 0} (seen : E → F) where
  -- while members are added, groups carry what they did and, with those that are left, all of them
  abbrev pub Adding : List (ℕ × F) → List (ℕ × Vec E A) → List (ℕ × F) → List (ℕ × Vec E A) → Type 0
  Adding all begun left groups = (f : ℕ) → carried seen groups f ++ of_key nat_cmp f left ≡ carried seen begun f ++ of_key nat_cmp f all

  pub added_on : (g : ℕ) (member : E) (left rest all : List (ℕ × F)) (begun old new : List (ℕ × Vec E A)) → left ≡ (g, seen member) ∷ rest
      → ((any : ℕ) → in_groups nat_cmp any (groups_seen new) ≡ in_groups nat_cmp any (groups_seen old) ++ of_key nat_cmp any ((g, member) ∷ []))
      → Adding all begun left old → Adding all begun rest new
  added_on g member left rest all begun old new is more goes = λ f.
      let one : carried seen new f ≡ carried seen old f ++ of_key nat_cmp f ((g, seen member) ∷ []) =
      ap (map seen) (more f)
      ∙ map-append seen (in_groups nat_cmp f (groups_seen old)) (of_key nat_cmp f ((g, member) ∷ []))
      ∙ ap (λ last. carried seen old f ++ last) (one_seen seen f g member) in
      ap (λ front. front ++ of_key nat_cmp f rest) one
      ∙ append_assoc (carried seen old f) (of_key nat_cmp f ((g, seen member) ∷ [])) (of_key nat_cmp f rest)
      ∙ ap (λ last. carried seen old f ++ last) (sym (ap (of_key nat_cmp f) is ∙ of_more nat_cmp nat_cmp_total f (g, seen member) rest))
      ∙ goes f

  pub added_all : (left all : List (ℕ × F)) (begun groups : List (ℕ × Vec E A)) → left ≡ [] → Adding all begun left groups → AreAdded seen all begun groups
  added_all left all begun groups none goes = λ f. sym (append-nil (carried seen groups f)) ∙ ap (λ xs. carried seen groups f ++ of_key nat_cmp f xs) (sym none) ∙ goes f

  pub gathered_on : (entries more : List (ℕ × F)) (old new : List (ℕ × Vec E A)) → AreGathered seen entries old → AreAdded seen more old new → AreOrdered nat_cmp (groups_seen new) → AreGathered seen (entries ++ more) new
  gathered_on entries more old new are added up = record {
    carry = λ f. added f ∙ ap (λ front. front ++ of_key nat_cmp f more) (are.carry f) ∙ sym (of_append nat_cmp f entries more);
    ordered = up;
  }

  pub gathered_none : (groups : List (ℕ × Vec E A)) → groups ≡ [] → AreGathered seen [] groups
  gathered_none groups none = record {
    carry = λ f. ap (λ own. carried seen own f) none;
    ordered = none_ordered nat_cmp nat_cmp_total (groups_seen groups) (ap groups_seen none);
  }

  -- ---- groups as they are seen

  abbrev group_seen : ℕ × Vec E A → ℕ × List F
  group_seen group = (group.0, map seen group.1.items)

  seen_twice : (groups : List (ℕ × Vec E A)) → map (group_of nat_cmp seen) (groups_seen groups) ≡ map group_seen groups
  seen_twice groups = map_twice (group_of nat_cmp seen) (λ (group : ℕ × Vec E A). (group.0, group.1.items)) groups

  pub in_seen : (f : ℕ) (groups : List (ℕ × Vec E A)) → in_groups nat_cmp f (map group_seen groups) ≡ carried seen groups f
  in_seen f groups = ap (in_groups nat_cmp f) (sym (seen_twice groups)) ∙ in_mapped nat_cmp seen f (groups_seen groups)

  keys_seen : (groups : List (ℕ × Vec E A)) → keys (map group_seen groups) ≡ keys (groups_seen groups)
  keys_seen [] = refl
  keys_seen (group ∷ groups) = ap (λ rest. group.0 ∷ rest) (keys_seen groups)

  some_seen : (groups : List (ℕ × Vec E A)) → AllByRecursion (λ (group : ℕ × List E). 0 < length group.1) (groups_seen groups) → AllByRecursion (λ (group : ℕ × List F). 0 < length group.1) (map group_seen groups)
  some_seen [] all = tt
  some_seen (group ∷ groups) all = (omega (arith, all.0, length-map group.1.items seen), some_seen groups all.1)

  pub gathered_groups : (entries : List (ℕ × F)) (groups : List (ℕ × Vec E A)) → AreGathered seen entries groups → AreGroups nat_cmp entries (map group_seen groups)
  gathered_groups entries groups are =
      are_groups nat_cmp nat_cmp_total entries (map group_seen groups) (λ f. in_seen f groups ∙ are.carry f)
      (record {
        ascending = subst (IsStrictlySortedBy nat_cmp) (sym (keys_seen groups)) are.ordered.ascending;
        some = some_seen groups are.ordered.some;
      })

  -- ---- what holds of the field of each entry holds of the field of each group

  pub fields_are : (test : ℕ → Bool) (entries : List (ℕ × F)) (groups : List (ℕ × Vec E A)) → AreGathered seen entries groups → AllByRecursion (λ (entry : ℕ × F). test entry.0 ≡ true) entries → AllByRecursion (λ field. test field ≡ true) (keys (groups_seen groups))
  fields_are test entries groups are all =
      by_keys (groups_seen groups) (each_both (λ (group : ℕ × List E). in_groups nat_cmp group.0 (groups_seen groups) ≡ group.1) (λ (group : ℕ × List E). 0 < length group.1) (λ (group : ℕ × List E). test group.0 ≡ true)
      (λ group own some. known group.0 group.1 own some) (groups_seen groups) (own_groups nat_cmp nat_cmp_total (groups_seen groups) are.ordered.ascending) are.ordered.some)
    where
      by_keys : (xs : List (ℕ × List E)) → AllByRecursion (λ (group : ℕ × List E). test group.0 ≡ true) xs → AllByRecursion (λ field. test field ≡ true) (keys xs)
      by_keys [] is = tt
      by_keys (x ∷ xs) is = (is.0, by_keys xs is.1)

      known : (f : ℕ) (members : List E) → in_groups nat_cmp f (groups_seen groups) ≡ members → 0 < length members → test f ≡ true
      known f members own some =
          split (test f)
          (λ is. is)
          (λ isnt.
          let none : map seen members ≡ [] = ap (map seen) (sym own) ∙ are.carry f ∙ none_other test f entries all isnt in
          absurd (omega (arith, some, ap length none, length-map members seen)))

texts_same : (docs : List ℕ) → map text_member docs ≡ docs
texts_same [] = refl
texts_same (doc ∷ docs) = ap (λ rest. doc ∷ rest) (texts_same docs)

pub texts_seen : {A : Type 0} (groups : List (ℕ × Vec ℕ A)) → map (λ (group : ℕ × Vec ℕ A). (group.0, map text_member group.1.items)) groups ≡ groups_seen groups
texts_seen [] = refl
texts_seen (group ∷ groups) = rw (texts_same group.1.items, texts_seen groups) refl
