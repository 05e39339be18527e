-- What evaluators give for the documents of a segment, said of the objects that these stand for.
use Rattle.std.specs.Prelude.{ℕ, ◌==◌, Bool, cond, List, [], ◌∷◌, Option, Some, None, option_map}
use Rattle.std.specs.List.{filter_map}
use Rattle.flattener.specs.StandsFor.{Marked, by_document}
use Rattle.mapping.specs.Mapping.{Mapping}
use Rattle.tree_objects.specs.Object.{Object, scope, around, below}
use Rattle.tree_objects.specs.Tree.{Tree}

abbrev pub scope_mark : Bool → Object → ℕ
scope_mark live o = scope o

-- the scopes of the documents
abbrev pub scopes_of : Mapping → List (Marked Tree) → List ℕ
scopes_of m trees = by_document m scope_mark trees

module _ {A : Type 0} where
  abbrev pub if_live : (Object → Option A) → Bool → Object → Option A
  if_live f live o = cond live (f o) None

  -- what each document has where its tree is live
  abbrev pub seen : Mapping → (Object → Option A) → List (Marked Tree) → List (Option A)
  seen m f trees = by_document m (if_live f) trees

  -- at the objects of one scope alone
  abbrev pub at_scope : ℕ → (Object → Option A) → Object → Option A
  at_scope n f o = cond (scope o == n) (f o) None

  -- what the object around an object has
  abbrev pub handed : ℕ → (Object → Option A) → Object → Option A
  handed from f o = f (around o from)

module _ {A B : Type 0} where
  -- what the objects below an object have, put together
  abbrev pub gathered : Mapping → (List A → Option B) → ℕ → (Object → Option A) → Object → Option B
  gathered m mode from score o = mode (filter_map score (below m o from))

-- a list, if it has anything
abbrev pub some_of : {A : Type 0} → List A → Option (List A)
some_of {A} [] = None
some_of {A} (x ∷ xs) = Some (x ∷ xs)

-- an object with the score that it is given, if any
abbrev pub scored : (Object → Option ℕ) → Object → Option (Object × ℕ)
scored given o = option_map (λ score. (o, score)) (given o)
