-- Serves proofs alone: the fields that the names of a source lead to.
use Rattle.std.specs.Prelude.{◌≡◌, ℕ, Bool, false, slice_index_or, List, [], ◌∷◌, ◌++◌, Option, Some, None}
use Rattle.std.specs.List.{AllByRecursion}
use Rattle.tree_json.specs.Value.{JsonValue, null, bool, whole, text, list, object, Elements, no_elements, element, Members, no_members, member}
use Rattle.mapping.specs.Mapping.{Mapping, field_at, field_below}

-- a field, and those below it
abbrev pub field_and : Option ℕ → (ℕ → List ℕ) → List ℕ
field_and None below = []
field_and (Some f) below = f ∷ below f

-- those that a value has below a path, as often as it names them
abbrev mutual
  pub fields_below : Mapping → ℕ → List ℕ → JsonValue → List ℕ
  fields_below m g path null = []
  fields_below m g path (bool b) = []
  fields_below m g path (whole z) = []
  fields_below m g path (text s) = []
  fields_below m g path (list ds) = fields_in m g path ds
  fields_below m g path (object ms) = fields_among m g path ms

  pub fields_in : Mapping → ℕ → List ℕ → Elements → List ℕ
  fields_in m g path no_elements = []
  fields_in m g path (element d ds) = fields_below m g path d ++ fields_in m g path ds

  pub fields_among : Mapping → ℕ → List ℕ → Members → List ℕ
  fields_among m g path no_members = []
  fields_among m g path (member k d ms) = field_and (field_below m g path k) (λ f. fields_below m g (field_at m f).path d) ++ fields_among m g path ms

-- a field is none of these
abbrev pub Misses : ℕ → List ℕ → Type 0
Misses f fs = AllByRecursion (λ e. e ≡ f → ⊥) fs

-- of the fields that are left out of a set, it leaves out all of a list where it leaves out what is left of that; and none comes out of it
abbrev pub MarksBut : List Bool → List Bool → List ℕ → List ℕ → Type 0
MarksBut old new left all = (f : ℕ) → slice_index_or new f false ≡ false → Misses f left → Misses f all × (slice_index_or old f false ≡ false)

abbrev pub Marks : List Bool → List Bool → List ℕ → Type 0
Marks old new all = MarksBut old new [] all
