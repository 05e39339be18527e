-- The first element of a name: it stays so where elements are put in byte order, and says which list in byte order it is.
use Rattle.std.proofs.Common.{◌≡◌, ℕ, List, [], ◌∷◌, ◌++◌, map, append-nil, append_assoc, refl, sym, ap, ◌∙◌, subst, true, false, cond, Option, Some, None, Less, Equal, Greater, bytes_eq}
use Rattle.std.proofs.lemmas.Cmp.{nat_list_cmp_total, tied_itself}
use Rattle.std.proofs.lemmas.List.Folds.{find-append}
use Rattle.std.proofs.lemmas.Slice.Eq.{bytes_eq-Decides}
use Rattle.std.specs.Option.{option_or}
use Rattle.std.specs.List.{find}
use Rattle.std.specs.List.Sorted.{IsStrictlySortedBy}
use Rattle.mapping_body.specs.Names.{AreAscending, put, put_all}
use Rattle.mapping_body.proofs.Puts.{AreAscending-put, all_beyond}
use Rattle.mapping_body.proofs.Ranks.{same_name}
use Rattle.mapping_body.proofs.Ranks.{by_ordering, is_eq_from, reversed, AllAfter, compared}
use Rattle.mapping_body.proofs.Walks.{split}

abbrev pub first : {T : Type 0} → (T → List ℕ) → List ℕ → List T → Option T
first name n xs = find (λ x. bytes_eq (name x) n) xs

none_of : {T : Type 0} (name : T → List ℕ) (n : List ℕ) (xs : List T) → AllAfter n (map name xs) → first name n xs ≡ None
none_of name n [] all = refl
none_of name n (x ∷ xs) all = rw (is_eq_from (name x) n Greater (reversed n (name x) Less all.0)) (none_of name n xs all.1)

first_beside : {T : Type 0} (name : T → List ℕ) (n : List ℕ) (x : T) (xs : List T) → bytes_eq (name x) n ≡ false → first name n (xs ++ (x ∷ [])) ≡ first name n xs
first_beside name n x [] other = rw other refl
first_beside {T} name n x (y ∷ xs) other = ap (λ (rest : Option T). cond (bytes_eq (name y) n) (Some y) rest) (first_beside name n x xs other)

first-put : {T : Type 0} (name : T → List ℕ) (n : List ℕ) (x : T) (xs : List T) → AreAscending (map name xs) → first name n (put name x xs) ≡ first name n (xs ++ (x ∷ []))
unfolding IsStrictlySortedBy
first-put name n x [] up = refl
first-put {T} name n x (y ∷ xs) up =
    by_ordering (compared (name y) (name x))
    (λ less. rw less (ap (λ (rest : Option T). cond (bytes_eq (name y) n) (Some y) rest) (first-put name n x xs up.1)))
    (λ equal.
    let one : name y ≡ name x = same_name (name y) (name x) equal in
    rw equal (split (bytes_eq (name y) n)
    (λ met. rw met refl)
    (λ other. rw other (sym (first_beside name n x xs (subst (λ (k : List ℕ). bytes_eq k n ≡ false) one other))))))
    (λ greater.
    let before = reversed (name y) (name x) Greater greater in
    rw greater (split (bytes_eq (name x) n)
    (λ met.
    let one : name x ≡ n = (bytes_eq-Decides (name x) n).0 met in
    let gone : first name n (y ∷ xs) ≡ None = subst (λ (k : List ℕ). first name k (y ∷ xs) ≡ None) one (none_of name (name x) (y ∷ xs) (before, all_beyond (name y) (name x) (map name xs) before up.0)) in
    let last : first name n (x ∷ []) ≡ Some x = rw met refl in
    rw met (sym (find-append (λ z. bytes_eq (name z) n) (y ∷ xs) (x ∷ []) ∙ ap (λ (o : Option T). option_or o (first name n (x ∷ []))) gone ∙ last)))
    (λ other. rw other (sym (first_beside name n x (y ∷ xs) other)))))

pub first-put_all : {T : Type 0} (name : T → List ℕ) (n : List ℕ) (ys xs : List T) → AreAscending (map name ys) → first name n (put_all name ys xs) ≡ first name n (ys ++ xs)
first-put_all {T} name n ys [] up = ap (first name n) (sym (append-nil ys))
first-put_all {T} name n ys (x ∷ xs) up =
    first-put_all name n (put name x ys) xs (AreAscending-put name x ys up)
    ∙ find-append (λ z. bytes_eq (name z) n) (put name x ys) xs
    ∙ ap (λ (o : Option T). option_or o (first name n xs)) (first-put name n x ys up)
    ∙ sym (find-append (λ z. bytes_eq (name z) n) (ys ++ (x ∷ [])) xs)
    ∙ ap (first name n) (append_assoc ys (x ∷ []) xs)

-- ---- names that ascend are told by their first elements

itself : (n : List ℕ) → bytes_eq n n ≡ true
itself n = is_eq_from n n Equal (tied_itself nat_list_cmp_total n)

module _ {T : Type 0} (name : T → List ℕ) where
  pub same_by_firsts : (xs ys : List T) → AreAscending (map name xs) → AreAscending (map name ys) → ((n : List ℕ) → first name n xs ≡ first name n ys) → xs ≡ ys
  unfolding IsStrictlySortedBy
  same_by_firsts [] [] up on same = refl
  same_by_firsts [] (y ∷ ys) up on same = let e : None ≡ Some y = rw (itself (name y)) at (same (name y)) in cc
  same_by_firsts (x ∷ xs) [] up on same = let e : Some x ≡ None = rw (itself (name x)) at (same (name x)) in cc
  same_by_firsts (x ∷ xs) (y ∷ ys) up on same =
      by_ordering (compared (name x) (name y))
      (λ less.
      let here : Some x ≡ first name (name x) (y ∷ ys) = rw (itself (name x)) at (same (name x)) in
      let none = none_of name (name x) (y ∷ ys) (less, all_beyond (name y) (name x) (map name ys) less on.0) in
      let e : Some x ≡ None = here ∙ none in
      cc)
      (λ equal.
      let one : name x ≡ name y = same_name (name x) (name y) equal in
      let there : bytes_eq (name y) (name x) ≡ true = subst (λ (n : List ℕ). bytes_eq n (name x) ≡ true) one (itself (name x)) in
      let e : Some x ≡ Some y = rw (itself (name x), there) at (same (name x)) in
      let first_is : x ≡ y = cc in
      let rest : (n : List ℕ) → first name n xs ≡ first name n ys = λ n.
      split (bytes_eq (name x) n)
      (λ met.
      let is : name x ≡ n = (bytes_eq-Decides (name x) n).0 met in
      none_of name n xs (subst (λ (k : List ℕ). AllAfter k (map name xs)) is up.0)
      ∙ sym (none_of name n ys (subst (λ (k : List ℕ). AllAfter k (map name ys)) (sym one ∙ is) on.0)))
      (λ other. rw (other, subst (λ (k : List ℕ). bytes_eq k n ≡ false) one other) at (same n)) in
      let more : xs ≡ ys = same_by_firsts xs ys up.1 on.1 rest in
      cc)
      (λ greater.
      let before = reversed (name x) (name y) Greater greater in
      let here : first name (name y) (x ∷ xs) ≡ Some y = rw (itself (name y)) at (same (name y)) in
      let none = none_of name (name y) (x ∷ xs) (before, all_beyond (name x) (name y) (map name xs) before up.0) in
      let e : None ≡ Some y = sym none ∙ here in
      cc)
