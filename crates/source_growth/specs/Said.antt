-- What the body that a source adds says of each path, by the values of the source at that path alone: the walk that finds
-- them is left aside.
use Rattle.std.specs.Prelude.{ℕ, ◌≡◌, true, false, if◌then◌else◌, List, [], ◌∷◌, ◌++◌, Option, Some, None, codes}
use Rattle.std.specs.Str.{bytes_eq}
use Rattle.tree_json.specs.Value.{JsonValue, null, bool, whole, text, list, object, Elements, no_elements, element, Members, no_members, member, member_of}
use Rattle.mapping_body.specs.Names.{joined, is_property_name}
use Rattle.mapping.specs.Mapping.{Mapping, field_below, kind_at, generation_of}
use Rattle.source_growth.specs.Growth.{typed, plain, holding, holds_objects}

-- ---- the values at a path

-- the single values that a value stands for: a list for those of its elements, null for none, any other for itself
abbrev mutual
  pub singles : JsonValue → List JsonValue
  singles null = []
  singles (bool b) = bool b ∷ []
  singles (whole z) = whole z ∷ []
  singles (text s) = text s ∷ []
  singles (list ds) = singles_in ds
  singles (object ms) = object ms ∷ []

  pub singles_in : Elements → List JsonValue
  singles_in no_elements = []
  singles_in (element d ds) = singles d ++ singles_in ds

abbrev pub singles_named : List ℕ → Members → List JsonValue
singles_named name no_members = []
singles_named name (member k d ms) = (if bytes_eq k name then singles d else []) ++ singles_named name ms

-- the single values at a name below values: those of that member of each object among them, in order
abbrev pub singles_below : List ℕ → List JsonValue → List JsonValue
singles_below name [] = []
singles_below name (object ms ∷ vs) = singles_named name ms ++ singles_below name vs
singles_below name (null ∷ vs) = singles_below name vs
singles_below name (bool b ∷ vs) = singles_below name vs
singles_below name (whole z ∷ vs) = singles_below name vs
singles_below name (text s ∷ vs) = singles_below name vs
singles_below name (list ds ∷ vs) = singles_below name vs

-- ---- what is said of an unmapped path

-- the type that a single value gives, where it is no object
abbrev pub type_given : JsonValue → Option (List ℕ)
type_given (bool b) = Some (codes "boolean")
type_given (whole z) = Some (codes "long")
type_given (text s) = Some (codes "text")
type_given (object ms) = None
type_given null = None
type_given (list ds) = None

-- By the values at an unmapped path: none say nothing. Else the first decides: it gives its type, or it is an object and
-- gives a plain object, and then each path below is said by the values there, those of later objects among them.
pub data IsSaid : List JsonValue → Option JsonValue → Type 0 where
  nothing : IsSaid [] None
  by_type : (v : JsonValue) (vs : List JsonValue) (name : List ℕ) → type_given v ≡ Some name → IsSaid (v ∷ vs) (Some (typed name))
  by_object : (ms : Members) (vs : List JsonValue) (ps : Members)
      → ((name : List ℕ) → is_property_name name ≡ true → IsSaid (singles_below name (object ms ∷ vs)) (member_of ps name))
      → IsSaid (object ms ∷ vs) (Some (plain ps))

-- ---- and of a mapped one

-- Below a mapped path, or the root's, each path is said by the field that is mapped there, if there is one, and by the
-- values there. A mapped path is named where something below it is added, with what is added there, and not else.
mutual
  pub data AreSaidBelow (m : Mapping) : List ℕ → List JsonValue → Members → Type 0 where
    each : (path : List ℕ) (vs : List JsonValue) (ps : Members)
        → ((name : List ℕ) → is_property_name name ≡ true → IsSaidAt m (joined path name) (field_below m (generation_of m) path name) (singles_below name vs) (member_of ps name))
        → AreSaidBelow m path vs ps

  pub data IsSaidAt (m : Mapping) : List ℕ → Option ℕ → List JsonValue → Option JsonValue → Type 0 where
    no_values : (path : List ℕ) (field : Option ℕ) → IsSaidAt m path field [] None
    unmapped : (path : List ℕ) (vs : List JsonValue) (form : Option JsonValue) → IsSaid vs form → IsSaidAt m path None vs form
    holds_none : (path : List ℕ) (f : ℕ) (vs : List JsonValue) → holds_objects (kind_at m f) ≡ false → IsSaidAt m path (Some f) vs None
    adds_none : (path : List ℕ) (f : ℕ) (vs : List JsonValue) → holds_objects (kind_at m f) ≡ true → AreSaidBelow m path vs no_members → IsSaidAt m path (Some f) vs None
    adds_some : (path : List ℕ) (f : ℕ) (vs : List JsonValue) (k : List ℕ) (form : JsonValue) (ps : Members)
        → holds_objects (kind_at m f) ≡ true → AreSaidBelow m path vs (member k form ps) → IsSaidAt m path (Some f) vs (Some (holding (kind_at m f) (member k form ps)))

-- The whole body: a body with properties where some are said, and none where none are.
abbrev pub IsSaidBy : Mapping → JsonValue → Option JsonValue → Type 0
IsSaidBy m source None = AreSaidBelow m [] (source ∷ []) no_members
IsSaidBy m source (Some body) = (ps : Members) × (body ≡ plain ps) × AreSaidBelow m [] (source ∷ []) ps
