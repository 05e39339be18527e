-- Entries of a key: through a stable sort, and one by one into groups.
use Rattle.std.proofs.Common.{◌≡◌, Bool, true, false, not, ◌&&◌, ◌||◌, List, [], ◌∷◌, ◌++◌, map, refl, sym, ap, ◌∙◌, append_assoc, append-nil, Vec}
use Rattle.std.proofs.lemmas.List.{map-append}
use Rattle.std.specs.Cmp.{IsTotalOrder}
use Rattle.std.specs.List.{filter, list_any}
use Rattle.std.specs.List.Sorted.{IsPermutation, IsStableBy, ties}
use Rattle.std.specs.Ordering.{is_lt, is_eq, eq_by_cmp, ordering_reverse}
use Rattle.std.specs.declared.cmp.Ordering.{Ordering}
use Rattle.std.specs.declared.cmp.Ordering.TheVariants.{Less, Equal, Greater}
use Rattle.std.proofs.lemmas.Cmp.{eq_by_cmp_equiv}
use Rattle.std.proofs.lemmas.List.Sorted.{list_any-IsPermutation}
use Rattle.segment_builder.specs.Groups.{of_key, in_groups, groups_seen}

-- cases of a test, with its equation
pub split : {C : Type 0} (t : Bool) → (t ≡ true → C) → (t ≡ false → C) → C
split true left right = left refl
split false left right = right refl

pub tied : (a b : Ordering) → b ≡ ordering_reverse a → not (is_lt a) && not (is_lt b) ≡ is_eq a
tied Less b e = refl
tied Equal b e = rw e refl
tied Greater b e = rw e refl

pub filter_same : {X : Type 0} (p q : X → Bool) → ((x : X) → p x ≡ q x) → (xs : List X) → filter p xs ≡ filter q xs
filter_same p q same [] = refl
filter_same p q same (x ∷ xs) = rw (same x, filter_same p q same xs) refl

module _ {K P : Type 0} (cmp : K → K → Ordering) (o : IsTotalOrder cmp) where
  abbrev vec_group : {A : Type 0} → K × Vec P A → K × List P
  vec_group {A} group = (group.0, group.1.items)

  abbrev is_of : K → K × P → Bool
  is_of key entry = eq_by_cmp cmp key entry.0

  from_filter : (key : K) (es : List (K × P)) → of_key cmp key es ≡ map (λ (e : K × P). e.1) (filter (is_of key) es)
  from_filter key [] = refl
  from_filter key (e ∷ es) =
      split (eq_by_cmp cmp key e.0)
      (λ is. rw (is, from_filter key es) refl)
      (λ isnt. rw (isnt, from_filter key es) refl)

  tie_is : (x y : K × P) → ties (λ a b. is_lt (cmp a.0 b.0)) x y ≡ is_of x.0 y
  tie_is x y = tied (cmp x.0 y.0) (cmp y.0 x.0) (o.antisymm y.0 x.0)

  none_of : (key : K) (es : List (K × P)) → list_any (is_of key) es ≡ false → of_key cmp key es ≡ []
  none_of key [] none = refl
  none_of key (e ∷ es) none =
      split (eq_by_cmp cmp key e.0)
      (λ is. (let same : (true || list_any (is_of key) es) ≡ false = rw is at none in absurd (cc (same))))
      (λ other. rw other (none_of key es (rw other at none)))

  -- an entry of the key stands for it
  of_entry : (xs ys : List (K × P)) → IsStableBy (λ a b. is_lt (cmp a.0 b.0)) xs ys → (x : K × P) → of_key cmp x.0 ys ≡ of_key cmp x.0 xs
  of_entry xs ys stable x =
      let one = filter_same (ties (λ a b. is_lt (cmp a.0 b.0)) x) (is_of x.0) (tie_is x) ys in
      let two = filter_same (ties (λ a b. is_lt (cmp a.0 b.0)) x) (is_of x.0) (tie_is x) xs in
      from_filter x.0 ys ∙ ap (map (λ (e : K × P). e.1)) (sym one ∙ stable x ∙ two) ∙ sym (from_filter x.0 xs)

  same_key : (x y : K) (es : List (K × P)) → eq_by_cmp cmp x y ≡ true → of_key cmp x es ≡ of_key cmp y es
  same_key x y [] e = refl
  same_key x y (entry ∷ es) e = rw ((eq_by_cmp_equiv o).congr x y entry.0 e, same_key x y es e) refl

  found_entry : (key : K) (es : List (K × P)) → list_any (is_of key) es ≡ true → (x : K × P) × (eq_by_cmp cmp key x.0 ≡ true)
  found_entry key [] h = absurd (cc (h))
  found_entry key (e ∷ es) h =
      split (eq_by_cmp cmp key e.0)
      (λ is. (e, is))
      (λ isnt. found_entry key es (rw isnt at h))

  pub stable_key : (xs ys : List (K × P)) → IsPermutation xs ys → IsStableBy (λ a b. is_lt (cmp a.0 b.0)) xs ys → (key : K) → of_key cmp key ys ≡ of_key cmp key xs
  stable_key xs ys moved stable key =
      split (list_any (is_of key) xs)
      (λ some.
      let x = found_entry key xs some in
      same_key key x.0.0 ys x.1 ∙ of_entry xs ys stable x.0 ∙ sym (same_key key x.0.0 xs x.1))
      (λ none. none_of key ys (sym (list_any-IsPermutation (is_of key) xs ys moved) ∙ none) ∙ sym (none_of key xs none))

  -- ---- groups

  abbrev one_of : K → K × P → List P
  one_of key entry = of_key cmp key (entry ∷ [])

  pub groups_append : (key : K) (gs hs : List (K × List P)) → in_groups cmp key (gs ++ hs) ≡ in_groups cmp key gs ++ in_groups cmp key hs
  groups_append key [] hs = refl
  groups_append key (g ∷ gs) hs =
      split (eq_by_cmp cmp key g.0)
      (λ is. rw (is, groups_append key gs hs) (sym (append_assoc g.1 (in_groups cmp key gs) (in_groups cmp key hs))))
      (λ isnt. rw (isnt, groups_append key gs hs) refl)

  pub of_more : (key : K) (e : K × P) (es : List (K × P)) → of_key cmp key (e ∷ es) ≡ of_key cmp key (e ∷ []) ++ of_key cmp key es
  of_more key e es =
      split (eq_by_cmp cmp key e.0)
      (λ is. rw is refl)
      (λ isnt. rw isnt refl)

  pub begun : (any key : K) (member : P) (gs : List (K × List P)) → in_groups cmp any (gs ++ (key, member ∷ []) ∷ []) ≡ in_groups cmp any gs ++ of_key cmp any ((key, member) ∷ [])
  begun any key member gs =
      split (eq_by_cmp cmp any key)
      (λ is. groups_append any gs ((key, member ∷ []) ∷ []) ∙ rw is refl)
      (λ isnt. groups_append any gs ((key, member ∷ []) ∷ []) ∙ rw isnt refl)

  pub went_on : (any last key : K) (members : List P) (member : P) (gs : List (K × List P)) → eq_by_cmp cmp last key ≡ true
      → in_groups cmp any (gs ++ (last, members ++ member ∷ []) ∷ []) ≡ in_groups cmp any (gs ++ (last, members) ∷ []) ++ of_key cmp any ((key, member) ∷ [])
  went_on any last key members member gs same =
      let sides : eq_by_cmp cmp any last ≡ eq_by_cmp cmp any key = (eq_by_cmp_equiv o).symm any last ∙ (eq_by_cmp_equiv o).congr last key any same ∙ (eq_by_cmp_equiv o).symm key any in
      let one : in_groups cmp any (gs ++ (last, members ++ member ∷ []) ∷ []) ≡ in_groups cmp any gs ++ in_groups cmp any ((last, members ++ member ∷ []) ∷ []) = groups_append any gs ((last, members ++ member ∷ []) ∷ []) in
      let two : in_groups cmp any (gs ++ (last, members) ∷ []) ≡ in_groups cmp any gs ++ in_groups cmp any ((last, members) ∷ []) = groups_append any gs ((last, members) ∷ []) in
      rw (one, two, ← sides)
      (split (eq_by_cmp cmp any last)
      (λ is. rw is (simp (append_assoc, append-nil)))
      (λ isnt. rw isnt (simp append-nil)))

  -- ---- as vectors keep groups

  pub begun_in : {A : Type 0} (any key : K) (member : P) (old new : List (K × Vec P A)) (members : Vec P A) → new ≡ old ++ (key, members) ∷ [] → members.items ≡ member ∷ []
      → in_groups cmp any (groups_seen new) ≡ in_groups cmp any (groups_seen old) ++ of_key cmp any ((key, member) ∷ [])
  begun_in {A} any key member old new members is one =
      rw (is, map-append (vec_group {A = A}) old ((key, members) ∷ []), one) (begun any key member (groups_seen old))

  pub went_on_in : {A : Type 0} (any last key : K) (member : P) (old rest new : List (K × Vec P A)) (members more : Vec P A)
      → old ≡ rest ++ (last, members) ∷ [] → more.items ≡ members.items ++ member ∷ [] → new ≡ rest ++ (last, more) ∷ [] → eq_by_cmp cmp last key ≡ true
      → in_groups cmp any (groups_seen new) ≡ in_groups cmp any (groups_seen old) ++ of_key cmp any ((key, member) ∷ [])
  went_on_in {A} any last key member old rest new members more was long is same =
      rw (is, was, map-append (vec_group {A = A}) rest ((last, more) ∷ []), map-append (vec_group {A = A}) rest ((last, members) ∷ []), long) (went_on any last key members.items member (groups_seen rest) same)

  pub gathers_on : (any : K) (old new whole : List P) (entry : K × P) (left rest : List (K × P)) → left ≡ entry ∷ rest → new ≡ old ++ of_key cmp any (entry ∷ []) → old ++ of_key cmp any left ≡ whole → new ++ of_key cmp any rest ≡ whole
  gathers_on any old new whole entry left rest is more goes =
      let parts : of_key cmp any left ≡ of_key cmp any (entry ∷ []) ++ of_key cmp any rest = ap (of_key cmp any) is ∙ of_more any entry rest in
      rw more (append_assoc old (of_key cmp any (entry ∷ [])) (of_key cmp any rest) ∙ ap (λ xs. old ++ xs) (sym parts) ∙ goes)
