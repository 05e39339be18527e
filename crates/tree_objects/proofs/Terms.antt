-- Tests of all tokens of a text, and what short texts need no test for.
use Rattle.std.proofs.Common.{◌≡◌, List, None, [], ◌∷◌, ℕ, length, map, refl, ap, Bool, true, false, ◌||◌, IsTrue, nat_le, arith}
use Rattle.std.proofs.lemmas.Bool.Decides.{nat_tests}
use Rattle.std.specs.List.{list_any, list_all}
use Rattle.analysis.specs.Words.{words}
use Rattle.mapping.specs.Mapping.{Mapping}
use Rattle.mapping_body.specs.declared.kind.Kind.TheVariants.{Text}
use Rattle.tree_json.specs.Value.{text}
use Rattle.tree_objects.specs.Fault.{fault_at, is_long_term}
use Rattle.tree_objects.specs.Values.{convert}
use Rattle.mapping_body.proofs.Walks.{split}

pub list_any-map : {A B : Type 0} (t : B → Bool) (f : A → B) (xs : List A) → list_any t (map f xs) ≡ list_any (λ x. t (f x)) xs
list_any-map t f [] = refl
list_any-map t f (x ∷ xs) = ap (λ rest. t (f x) || rest) (list_any-map t f xs)

pub ruleset terms = (list_any-map)

not_long : (term : List ℕ) → nat_le (length term) 32_766 ≡ true → is_long_term term ≡ false
not_long term h = grind (arith, nat_tests)

pub none_long : (ws : List (List ℕ)) → IsTrue (list_all (λ w. nat_le (length w) 32_766) ws) → list_any is_long_term ws ≡ false
none_long [] h = refl
none_long (w ∷ ws) h =
    split (nat_le (length w) 32_766)
    (λ here. rw (not_long w here) (none_long ws (rw here at h)))
    (λ long. let none : false ≡ true = rw long at h in cc)

-- a text of short tokens has no fault where the kind is a text's
pub short_text : (m : Mapping) (g f : ℕ) (path s : List ℕ) → IsTrue (list_all (λ w. nat_le (length w) 32_766) (words s)) → fault_at m g path f Text (text s) ≡ None
unfolding convert
short_text m g f path s h = rw (none_long (words s) h) refl

pub ruleset short = (none_long)
