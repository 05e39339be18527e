-- Roots by what a segment keeps of them.
use Rattle.std.specs.Prelude.{ℕ, ◌==◌, Bool, true, false, ◌&&◌, List}
use Rattle.std.specs.Str.{bytes_eq}
use Rattle.segment.specs.Flat.{FlatRoot}
use Rattle.stored_sources.specs.declared.root.Join.{Join}
use Rattle.stored_sources.specs.declared.root.Join.TheVariants.{Unjoined, Named, Child}
use Rattle.leaf_search.specs.declared.roots.RootTest.{RootTest}
use Rattle.leaf_search.specs.declared.roots.RootTest.TheVariants.{IsJoined, IsChild}

abbrev pub is_joined : Join → Bool
is_joined Unjoined = false
is_joined (Named relation) = true
is_joined (Child relation parent) = true

abbrev pub is_child_of : ℕ → List ℕ → Join → Bool
is_child_of r id Unjoined = false
is_child_of r id (Named relation) = false
is_child_of r id (Child relation parent) = relation == r && bytes_eq parent id

abbrev pub root_passes : RootTest → FlatRoot → Bool
root_passes IsJoined root = is_joined root.join
root_passes (IsChild relation id) root = is_child_of relation id.now root.join
