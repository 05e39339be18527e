-- What filters find, one after the other.
use Rattle.std.proofs.Common.{◌≡◌, ℕ, zero, suc, ◌+◌, ◌<◌, Bool, true, false, List as Seq, [], ◌∷◌, ◌++◌, length, get_or, take, Option, refl, sym, ap, subst, ◌∙◌, arith}
use Rattle.std.specs.List.{AllByRecursion, flat_map, list_any}
use Rattle.std.proofs.lemmas.List.{flat_map_more, take_more}
use Rattle.mapping.specs.Mapping.{Mapping}
use Rattle.nested_sort.specs.Filters.{AreFound}
use Rattle.query_ast.specs.Clause.{Clause}
use Rattle.query_ast.specs.Resolved.{IsChain, IsFilter}
use Rattle.query_ast.specs.declared.sort.Chain.{Chain}
use Rattle.query_eval.specs.Found.{IsFound}
use Rattle.segment.specs.Live.{EntryState}

by_test : {G : Type 0} (t : Bool) → (t ≡ true → G) → (t ≡ false → G) → G
by_test true held failed = held refl
by_test false held failed = failed refl

pub all_at : {A : Type 0} (P : A → Type 0) (xs : Seq A) (i : ℕ) (x : A) → AllByRecursion P xs → i < length xs → x ≡ get_or xs i x → P x
all_at P [] i x all low is = absurd (omega (arith, low))
all_at P (y ∷ xs) zero x all low is = subst P (sym is) all.0
all_at P (y ∷ xs) (suc i) x all low is = all_at P xs i x all.1 (omega (arith, low)) is

pub any_at : {A : Type 0} (p : A → Bool) (xs : Seq A) (i : ℕ) (x : A) → i < length xs → x ≡ get_or xs i x → p x ≡ true → list_any p xs ≡ true
any_at p [] i x low is holds = absurd (omega (arith, low))
any_at p (y ∷ xs) zero x low is holds = let first : p y ≡ true = ap p (sym is) ∙ holds in rw first refl
any_at p (y ∷ xs) (suc i) x low is holds =
    let rest : list_any p xs ≡ true = any_at p xs i x (omega (arith, low)) is holds in
    by_test (p y) (λ first. rw first refl) (λ first. rw (first, rest) refl)

-- the filters of a chain were resolved in the scopes of its steps
pub chain_filters : (m : Mapping) (s : ℕ) (chain : Seq Chain) → IsChain m s chain → AllByRecursion (λ (step : Chain). IsFilter m step.scope step.filter) chain
chain_filters m s [] is = tt
chain_filters m s (step ∷ chain) is = (is.1, chain_filters m step.scope chain is.2)

module _ (m : Mapping) (view : Seq EntryState) where
  pub found_more : (filters : Seq (ℕ × Clause)) (found : Seq (Seq (Seq (Option ℕ)))) (scope : ℕ) (filter : Clause) (scores : Seq (Seq (Option ℕ))) → AreFound m view filters found → IsFound m view scope filter scores
      → AreFound m view (filters ++ (scope, filter) ∷ []) (found ++ scores ∷ [])
  found_more [] [] scope filter scores were is = (is, tt)
  found_more [] (x ∷ found) scope filter scores were is = absurd were
  found_more (f ∷ filters) [] scope filter scores were is = absurd were
  found_more (f ∷ filters) (x ∷ found) scope filter scores were is = (were.0, found_more filters found scope filter scores were.1 is)

  -- a list of filters goes on by those of the next element
  pub found_next : {A : Type 0} (f : A → Seq (ℕ × Clause)) (xs : Seq A) (i : ℕ) (x : A) (before : Seq (ℕ × Clause)) (found : Seq (Seq (Seq (Option ℕ)))) → i < length xs → x ≡ get_or xs i x
      → AreFound m view ((before ++ flat_map f (take i xs)) ++ f x) found → AreFound m view (before ++ flat_map f (take (i + 1) xs)) found
  found_next {A} f xs i x before found low is are =
      subst (λ (l : Seq (ℕ × Clause)). AreFound m view l found)
      (flat_map_more f before (take i xs) x
      ∙ ap (λ (y : A). before ++ flat_map f (take i xs ++ y ∷ [])) is
      ∙ ap (λ (l : Seq A). before ++ flat_map f l) (sym (take_more xs i x low)))
      are
