-- What is asked of the properties that a body adds is asked of what the walk keeps of them.
use Rattle.std.proofs.Common.{◌≡◌, ℕ, ◌+◌, ◌-◌, ◌≤◌, List as Seq, [], ◌∷◌, ◌++◌, map, filter, length, refl, sym, ap, ◌∙◌, arith, Bool, true, false, not, ◌&&◌, ◌||◌, cond, nat_lt, count_by}
use Rattle.std.proofs.lemmas.List.Recursion.{is_count_by}
use Rattle.std.proofs.lemmas.List.Sums.{length-filter}
use Rattle.std.proofs.lemmas.List.Folds.{flat_map-map}
use Rattle.std.specs.List.{flat_map, list_any, list_all}
use Rattle.tree_json.specs.View.{view}
use Rattle.mapping_body.specs.Pairs.{pairs_of_said}
use Rattle.mapping_growth.specs.declared.property.Outline.{Outline}
use Rattle.mapping_body.specs.Body.{Property}
use Rattle.mapping_growth.specs.Judged.{is_new}
use Rattle.mapping_body.specs.Names.{is_among}
use Rattle.mapping_growth.specs.Outline.{Outlined, outline_of, outlined}
use Rattle.mapping_body.proofs.Walks.{split}

-- how many pass a test, by recursion
abbrev passing : {A : Type 0} → (A → Bool) → Seq A → ℕ
passing t [] = 0
passing t (x ∷ xs) = cond (t x) (1 + passing t xs) (passing t xs)

passing_counted : {A : Type 0} (t : A → Bool) (xs : Seq A) → passing t xs ≡ count_by t xs
passing_counted t xs = is_count_by (passing t) t refl (λ _ _. refl) xs

passing_map : {A B : Type 0} (t : B → Bool) (f : A → B) (xs : Seq A) → passing t (map f xs) ≡ passing (λ x. t (f x)) xs
passing_map t f [] = refl
passing_map t f (x ∷ xs) = rw (passing_map t f xs) refl

passing_filter : {A : Type 0} (t q : A → Bool) (xs : Seq A) → passing q (filter t xs) ≡ passing (λ x. t x && q x) xs
passing_filter t q [] = refl
passing_filter t q (x ∷ xs) =
    split (t x)
    (λ held. rw (held, passing_filter t q xs) refl)
    (λ failed. rw (failed, passing_filter t q xs) refl)

passing_append : {A : Type 0} (t : A → Bool) (xs ys : Seq A) → passing t (xs ++ ys) ≡ passing t xs + passing t ys
passing_append t [] ys = omega arith
passing_append t (x ∷ xs) ys =
    let more = passing_append t xs ys in
    split (t x)
    (λ held. rw held (omega (arith, more)))
    (λ failed. rw failed more)

pub count_append : {A : Type 0} (t : A → Bool) (xs ys : Seq A) → count_by t (xs ++ ys) ≡ count_by t xs + count_by t ys
count_append t xs ys =
    sym (passing_counted t (xs ++ ys)) ∙ passing_append t xs ys ∙ ap (λ n. n + passing t ys) (passing_counted t xs) ∙ ap (λ n. count_by t xs + n) (passing_counted t ys)

any_map : {A B : Type 0} (t : B → Bool) (f : A → B) (xs : Seq A) → list_any t (map f xs) ≡ list_any (λ x. t (f x)) xs
any_map t f [] = refl
any_map t f (x ∷ xs) = ap (λ (r : Bool). t (f x) || r) (any_map t f xs)

all_map : {A B : Type 0} (t : B → Bool) (f : A → B) (xs : Seq A) → list_all t (map f xs) ≡ list_all (λ x. t (f x)) xs
all_map t f [] = refl
all_map t f (x ∷ xs) = ap (λ (r : Bool). t (f x) && r) (all_map t f xs)

any_filter : {A : Type 0} (t q : A → Bool) (xs : Seq A) → list_any q (filter t xs) ≡ list_any (λ x. t x && q x) xs
any_filter t q [] = refl
any_filter t q (x ∷ xs) =
    split (t x)
    (λ held. rw (held, any_filter t q xs) refl)
    (λ failed. rw (failed, any_filter t q xs) refl)

module _ (known : Seq (Seq ℕ)) (os : Seq Outline) (ps : Seq Property) (e : map outline_of os ≡ map (outlined known) ps) where
  pub new_counted : (t : Outlined → Bool)
      → count_by (λ o. is_new (outline_of o) && t (outline_of o)) os ≡ count_by (λ p. t (outlined known p)) (filter (λ p. not (is_among known p.path)) ps)
  new_counted t =
      sym (passing_counted (λ o. is_new (outline_of o) && t (outline_of o)) os)
      ∙ sym (passing_map (λ o. is_new o && t o) outline_of os) ∙ ap (passing (λ o. is_new o && t o)) e ∙ passing_map (λ o. is_new o && t o) (outlined known) ps
      ∙ sym (passing_filter (λ p. not (is_among known p.path)) (λ p. t (outlined known p)) ps)
      ∙ passing_counted (λ p. t (outlined known p)) (filter (λ p. not (is_among known p.path)) ps)

  pub new_many : count_by (λ o. is_new (outline_of o)) os ≡ length (filter (λ p. not (is_among known p.path)) ps)
  new_many =
      sym (passing_counted (λ o. is_new (outline_of o)) os) ∙ sym (passing_map is_new outline_of os) ∙ ap (passing is_new) e ∙ passing_map is_new (outlined known) ps
      ∙ passing_counted (λ p. not (is_among known p.path)) ps ∙ sym (length-filter (λ p. not (is_among known p.path)) ps)

  pub new_any : (t : Outlined → Bool)
      → list_any (λ o. is_new (outline_of o) && t (outline_of o)) os ≡ list_any (λ p. t (outlined known p)) (filter (λ p. not (is_among known p.path)) ps)
  new_any t =
      sym (any_map (λ o. is_new o && t o) outline_of os) ∙ ap (list_any (λ o. is_new o && t o)) e ∙ any_map (λ o. is_new o && t o) (outlined known) ps
      ∙ sym (any_filter (λ p. not (is_among known p.path)) (λ p. t (outlined known p)) ps)

  pub forms_all : (t : Outlined → Bool) → list_all (λ o. t (outline_of o)) os ≡ list_all (λ p. t (outlined known p)) ps
  forms_all t = sym (all_map t outline_of os) ∙ ap (list_all t) e ∙ all_map t (outlined known) ps

  pub pairs_all : flat_map (λ o. pairs_of_said (view o.form.now)) os ≡ flat_map (λ p. pairs_of_said p.form) ps
  pairs_all =
      sym (flat_map-map (λ o. pairs_of_said o.form) outline_of os) ∙ ap (flat_map (λ (o : Outlined). pairs_of_said o.form)) e ∙ flat_map-map (λ o. pairs_of_said o.form) (outlined known) ps
