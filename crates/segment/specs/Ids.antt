-- Roots in the order of their ids.
use Rattle.std.specs.Prelude.{ℕ, ◌<◌, ◌≤◌, ◌↔◌, Bool, List, length, slice_index, Contains, if◌then◌else◌}
use Rattle.std.specs.Ordering.{nat_cmp, ordering_index}
use Rattle.std.specs.Cmp.Lexicographic.{slice_cmp}
use Rattle.std.specs.List.Sorted.{IsSortedByKey}
use Rattle.stored_sources.specs.declared.root.Root.{Root}
use Rattle.stored_sources.specs.Roots.{root_of}

-- the bytes of a root's id
abbrev pub id_of : List Root → ℕ → List ℕ
id_of roots root = (root_of roots root).id

-- all roots, in the order of the bytes of their ids
pub record AreById (roots : List Root) (order : List ℕ) : Type 0 where
  pub all : (root : ℕ) → Contains order root ↔ root < length roots
  pub sorted : IsSortedByKey (id_of roots) (slice_cmp nat_cmp) order

-- how the id of root `at` in order compares: 0 where it is less, 1 where it is the same, 2 where it is greater
abbrev pub rank : List Root → List ℕ → List ℕ → ℕ → ℕ
rank roots order id at = ordering_index (slice_cmp nat_cmp (id_of roots (slice_index order at)) id)

-- what ranks come before a place: those before the roots with an id, or up to and with them
abbrev pub bound : Bool → ℕ
bound through = if through then 2 else 1

-- so many come before the roots with an id, or up to and with them
pub record AreUpTo (roots : List Root) (order id : List ℕ) (through : Bool) (count : ℕ) : Type 0 where
  pub within : count ≤ length order
  pub before : (at : ℕ) → at < count → rank roots order id at < bound through
  pub after : (at : ℕ) → count ≤ at → at < length order → bound through ≤ rank roots order id at
