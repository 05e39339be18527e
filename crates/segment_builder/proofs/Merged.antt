-- What columns say of one document is what the document carries: lists by ascending key, the one a part of the other.
use Rattle.std.proofs.Common.{◌≡◌, ℕ, true, false, ◌||◌, cond, List, [], ◌∷◌, map, refl, sym, ap, subst, ◌∙◌}
use Rattle.std.specs.Cmp.{IsTotalOrder}
use Rattle.std.specs.List.{filter, list_any, AllByRecursion}
use Rattle.std.specs.List.Sorted.{IsStrictlySortedBy}
use Rattle.std.specs.Ordering.{is_eq, eq_by_cmp, ordering_reverse}
use Rattle.std.specs.declared.cmp.Ordering.{Ordering}
use Rattle.std.specs.declared.cmp.Ordering.TheVariants.{Less, Equal, Greater}
use Rattle.std.proofs.lemmas.Cmp.{eq_by_cmp_equiv}
use Rattle.std.proofs.lemmas.Map.Keys.{sorted_head, sorted_tail}
use Rattle.doc_values.specs.Values.{values_of}
use Rattle.segment.specs.Flat.{has_some}
pub use Rattle.segment_builder.specs.Groups.{keys}

-- an order in which only the same things tie
pub record IsExact {K : Type 0} (cmp : K → K → Ordering) : Type 0 where
  pub total : IsTotalOrder cmp
  pub same : (x y : K) → cmp x y ≡ Equal → x ≡ y

cases : {C : Type 0} (o : Ordering) → (o ≡ Less → C) → (o ≡ Equal → C) → (o ≡ Greater → C) → C
cases Less less equal more = less refl
cases Equal less equal more = equal refl
cases Greater less equal more = more refl

module _ {K : Type 0} (cmp : K → K → Ordering) (o : IsExact cmp) where
  less_apart : (x y : K) → cmp x y ≡ Less → eq_by_cmp cmp x y ≡ false
  less_apart x y less = rw less refl

  pub less_back : (x y : K) → cmp x y ≡ Less → eq_by_cmp cmp y x ≡ false
  less_back x y less = (eq_by_cmp_equiv o.total).symm y x ∙ less_apart x y less

  after : (x y : K) (ys : List K) → cmp x y ≡ Less → AllByRecursion (λ z. cmp y z ≡ Less) ys → AllByRecursion (λ z. cmp x z ≡ Less) ys
  after x y [] less all = tt
  after x y (z ∷ zs) less all = (o.total.trans x y z less all.0, after x y zs less all.1)

  none_in : {Y : Type 0} (key : K) (groups : List (K × Y)) → AllByRecursion (λ k. cmp key k ≡ Less) (keys groups) → list_any (λ (group : K × Y). eq_by_cmp cmp key group.0) groups ≡ false
  none_in key [] all = refl
  none_in key (group ∷ groups) all = rw (less_apart key group.0 all.0) (none_in key groups all.1)

module _ {K X : Type 0} (cmp : K → K → Ordering) (o : IsExact cmp) where
  -- what a list carries at a key
  abbrev pub find : K → List (K × List X) → List X
  find key [] = []
  find key (entry ∷ entries) = cond (eq_by_cmp cmp key entry.0) entry.1 (find key entries)

  abbrev pub AreIn : {Y : Type 0} → List (K × Y) → List (K × List X) → Type 0
  AreIn {Y} groups entries = AllByRecursion (λ (entry : K × List X). list_any (λ (group : K × Y). eq_by_cmp cmp entry.0 group.0) groups ≡ true) entries

  abbrev pub AreSome : List (K × List X) → Type 0
  AreSome entries = AllByRecursion (λ (entry : K × List X). has_some entry ≡ true) entries

  -- a key before all of a list isn't in it
  find_none : (key : K) (entries : List (K × List X)) → AllByRecursion (λ k. cmp key k ≡ Less) (keys entries) → find key entries ≡ []
  find_none key [] all = refl
  find_none key (entry ∷ entries) all = rw (less_apart cmp o key entry.0 all.0) (find_none key entries all.1)

  -- keys behind the first group are in the others
  in_rest : {Y : Type 0} (group : K × Y) (groups : List (K × Y)) (entries : List (K × List X)) → AllByRecursion (λ k. cmp group.0 k ≡ Less) (keys entries) → AreIn (group ∷ groups) entries → AreIn groups entries
  in_rest group groups [] behind all = tt
  in_rest {Y} group groups (entry ∷ entries) behind all =
      let here : (eq_by_cmp cmp entry.0 group.0 || list_any (λ (other : K × Y). eq_by_cmp cmp entry.0 other.0) groups) ≡ true = all.0 in
      (rw (less_back cmp o group.0 entry.0 behind.0) at here, in_rest group groups entries behind.1 all.1)

  abbrev Says : List (K × List (ℕ × List X)) → List (K × List X) → ℕ → Type 0
  Says groups entries doc = AllByRecursion (λ (group : K × List (ℕ × List X)). values_of doc group.1 ≡ find group.0 entries) groups

  -- behind the first entry's key the other entries say it
  says_rest : (doc : ℕ) (entry : K × List X) (groups : List (K × List (ℕ × List X))) (entries : List (K × List X)) → AllByRecursion (λ k. cmp entry.0 k ≡ Less) (keys groups) → Says groups (entry ∷ entries) doc → Says groups entries doc
  says_rest doc entry [] entries behind all = tt
  says_rest doc entry (group ∷ groups) entries behind all =
      (all.0 ∙ rw (less_back cmp o entry.0 group.0 behind.0) refl, says_rest doc entry groups entries behind.1 all.1)

  abbrev pub at_document : ℕ → List (K × List (ℕ × List X)) → List (K × List X)
  at_document doc groups = filter has_some (map (λ (group : K × List (ℕ × List X)). (group.0, values_of doc group.1)) groups)

  merged_from : (doc : ℕ) (groups : List (K × List (ℕ × List X))) (entries : List (K × List X))
      → IsStrictlySortedBy cmp (keys groups) → IsStrictlySortedBy cmp (keys entries) → AreSome entries → Says groups entries doc → AreIn groups entries
      → at_document doc groups ≡ entries
  merged_from doc [] [] up rise some says in_it = refl
  merged_from doc [] (entry ∷ entries) up rise some says in_it = absurd (let never : false ≡ true = in_it.0 in cc)
  merged_from doc (group ∷ groups) [] up rise some says in_it =
      let nothing : values_of doc group.1 ≡ [] = says.0 in
      rw nothing (merged_from doc groups [] (sorted_tail cmp group.0 (keys groups) up) rise some says.1 tt)
  merged_from doc (group ∷ groups) (entry ∷ entries) up rise some says in_it =
      let above : AllByRecursion (λ k. cmp group.0 k ≡ Less) (keys groups) = sorted_head cmp group.0 (keys groups) up in
      let later : AllByRecursion (λ k. cmp entry.0 k ≡ Less) (keys entries) = sorted_head cmp entry.0 (keys entries) rise in
      let up_rest : IsStrictlySortedBy cmp (keys groups) = sorted_tail cmp group.0 (keys groups) up in
      cases (cmp group.0 entry.0)
      (λ less.
      let behind : AllByRecursion (λ k. cmp group.0 k ≡ Less) (keys (entry ∷ entries)) = (less, after cmp o group.0 entry.0 (keys entries) less later) in
      let nothing : values_of doc group.1 ≡ [] = says.0 ∙ find_none group.0 (entry ∷ entries) behind in
      rw nothing (merged_from doc groups (entry ∷ entries) up_rest rise some says.1 (in_rest group groups (entry ∷ entries) behind in_it)))
      (λ equal.
      let same : group.0 ≡ entry.0 = o.same group.0 entry.0 equal in
      let found : eq_by_cmp cmp group.0 entry.0 ≡ true = ap is_eq equal in
      let values : values_of doc group.1 ≡ entry.1 = says.0 ∙ rw found refl in
      let above_entry : AllByRecursion (λ k. cmp entry.0 k ≡ Less) (keys groups) = subst (λ key. AllByRecursion (λ k. cmp key k ≡ Less) (keys groups)) same above in
      let behind : AllByRecursion (λ k. cmp group.0 k ≡ Less) (keys entries) = subst (λ key. AllByRecursion (λ k. cmp key k ≡ Less) (keys entries)) (sym same) later in
      let rest : at_document doc groups ≡ entries =
      merged_from doc groups entries up_rest (sorted_tail cmp entry.0 (keys entries) rise) some.1 (says_rest doc entry groups entries above_entry says.1) (in_rest group groups entries behind in_it.1) in
      let kept : has_some (entry.0, entry.1) ≡ true = some.0 in
      rw (values, same, kept, rest) refl)
      (λ more.
      let back : cmp entry.0 group.0 ≡ Less = o.total.antisymm entry.0 group.0 ∙ ap ordering_reverse more in
      let before : AllByRecursion (λ k. cmp entry.0 k ≡ Less) (keys (group ∷ groups)) = (back, after cmp o entry.0 group.0 (keys groups) back above) in
      absurd (let never : true ≡ false = sym in_it.0 ∙ none_in cmp o entry.0 (group ∷ groups) before in cc))

  pub merged : (doc : ℕ) (groups : List (K × List (ℕ × List X))) (entries : List (K × List X))
      → IsStrictlySortedBy cmp (keys groups) → IsStrictlySortedBy cmp (keys entries) → AreSome entries
      → AllByRecursion (λ (group : K × List (ℕ × List X)). values_of doc group.1 ≡ find group.0 entries) groups → AreIn groups entries
      → at_document doc groups ≡ entries
  merged doc groups entries up rise some says in_it = merged_from doc groups entries up rise some says in_it
