-- Going through a full list page by page.
use Rattle.std.specs.Prelude.{◌≡◌, ℕ, ◌<◌, List, [], ◌∷◌, ◌++◌, length, Option}
use Rattle.tree_objects.specs.declared.field_value.FieldValue.{FieldValue}
use Rattle.composite_aggs.specs.Composite.{Keyed, page_behind, last_key}

module _ {A : Type 0} where
  -- Pages of one size: the first is what is behind `after`, each other what is behind the last key of the one before it, and
  -- the last page alone has fewer than `size` buckets.
  abbrev pub IsWalk : ℕ → List (Keyed A) → Option (List FieldValue) → List (List (Keyed A)) → Type 0
  IsWalk size full after [] = ⊥
  IsWalk size full after (page ∷ []) = (page ≡ page_behind after size full) × (length page < size)
  IsWalk size full after (page ∷ next ∷ more) =
      (page ≡ page_behind after size full) × (length page ≡ size) × IsWalk size full (last_key page) (next ∷ more)

  -- the buckets of all pages, one page after the other
  abbrev pub joined : List (List (Keyed A)) → List (Keyed A)
  joined [] = []
  joined (page ∷ pages) = page ++ joined pages
