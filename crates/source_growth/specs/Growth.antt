-- The body that a source adds to a mapping: what names each path that the source has and the mapping hasn't
-- (Elasticsearch reference, dynamic mapping; that a text is never taken for a date, and has no keyword beside it, is this
-- project's own).
use Rattle.std.specs.Prelude.{ℕ, Bool, true, false, if◌then◌else◌, List, [], Option, Some, None, unwrap_or, codes}
use Rattle.std.specs.Option.{option_or}
use Rattle.std.specs.Ordering.{nat_cmp, match_ordering}
use Rattle.std.specs.Cmp.Lexicographic.{slice_cmp}
use Rattle.tree_json.specs.Value.{JsonValue, null, bool, whole, text, list, object, Elements, no_elements, element, Members, no_members, member, member_of}
use Rattle.mapping_body.specs.declared.kind.Kind.{Kind}
use Rattle.mapping_body.specs.declared.kind.Kind.TheVariants.{Text, Keyword, Long, Boolean, Date, Object, Nested, Join}
use Rattle.mapping_body.specs.Body.{is_nested}
use Rattle.mapping_body.specs.Names.{joined, is_property_name}
use Rattle.mapping.specs.Mapping.{Mapping, field_below, kind_at, generation_of}

-- ---- the forms of properties

abbrev pub typed : List ℕ → JsonValue
typed name = object (member (codes "type") (text name) no_members)

abbrev pub plain : Members → JsonValue
plain ps = object (member (codes "properties") (object ps) no_members)

abbrev pub nested : Members → JsonValue
nested ps = object (member (codes "properties") (object ps) (member (codes "type") (text (codes "nested")) no_members))

-- a mapped field above a property that is added: a nested field says its type again
abbrev pub holding : Kind → Members → JsonValue
holding kind ps = if is_nested kind then nested ps else plain ps

-- the properties below a form that has some, which stand first in it
abbrev pub properties_in : JsonValue → Option Members
properties_in (object (member k (object ps) more)) = Some ps
properties_in v = None

-- the kinds whose values are objects
abbrev pub holds_objects : Kind → Bool
holds_objects Object = true
holds_objects Nested = true
holds_objects Text = false
holds_objects Keyword = false
holds_objects Long = false
holds_objects Boolean = false
holds_objects Date = false
holds_objects Join = false

-- ---- properties in byte order of their names

-- the members with one more at its place, or with another value where the name stands already
abbrev pub put_member : List ℕ → JsonValue → Members → Members
put_member k d no_members = member k d no_members
put_member k d (member l e ms) =
    match_ordering (slice_cmp nat_cmp k l) (member k d (member l e ms)) (member l d ms) (member l e (put_member k d ms))

abbrev pub with_form : List ℕ → Option JsonValue → Members → Members
with_form name None ps = ps
with_form name (Some form) ps = put_member name form ps

-- ---- the value that decides

-- the first value that is neither a list nor null: lists are looked through, in order
abbrev mutual
  pub first_value : JsonValue → Option JsonValue
  first_value null = None
  first_value (bool b) = Some (bool b)
  first_value (whole z) = Some (whole z)
  first_value (text s) = Some (text s)
  first_value (list ds) = first_value_in ds
  first_value (object ms) = Some (object ms)

  pub first_value_in : Elements → Option JsonValue
  first_value_in no_elements = None
  first_value_in (element d ds) = option_or (first_value d) (first_value_in ds)

-- the form of a new property by the value that decides, with what is found below it where that is an object
abbrev pub new_form : Members → Option JsonValue → Option JsonValue
new_form below None = None
new_form below (Some null) = None
new_form below (Some (bool b)) = Some (typed (codes "boolean"))
new_form below (Some (whole z)) = Some (typed (codes "long"))
new_form below (Some (text s)) = Some (typed (codes "text"))
new_form below (Some (list ds)) = None
new_form below (Some (object ms)) = Some (plain below)

-- ---- below an unmapped path

-- a form that was found stays, and an object has more properties
abbrev pub more_form : (Members → Members) → JsonValue → Option Members → JsonValue
more_form add form None = form
more_form add form (Some ps) = plain (add ps)

-- the form at an unmapped path after a value there: the first one that is neither a list nor null decides
abbrev pub form_after : Option JsonValue → (Members → Members) → Option JsonValue → Option JsonValue
form_after first add None = new_form (add no_members) first
form_after first add (Some form) = Some (more_form add form (properties_in form))

-- The properties that a value adds below an unmapped path to those that were found there: the members of each object in
-- it. A name that no property may have is passed over, with all below it.
abbrev mutual
  pub unmapped_below : JsonValue → Members → Members
  unmapped_below null ps = ps
  unmapped_below (bool b) ps = ps
  unmapped_below (whole z) ps = ps
  unmapped_below (text s) ps = ps
  unmapped_below (list ds) ps = unmapped_in ds ps
  unmapped_below (object ms) ps = unmapped_among ms ps

  pub unmapped_in : Elements → Members → Members
  unmapped_in no_elements ps = ps
  unmapped_in (element d ds) ps = unmapped_in ds (unmapped_below d ps)

  pub unmapped_among : Members → Members → Members
  unmapped_among no_members ps = ps
  unmapped_among (member k d ms) ps =
      unmapped_among ms
      (if is_property_name k then with_form k (form_after (first_value d) (unmapped_below d) (member_of ps k)) ps else ps)

-- ---- below a mapped path

-- the properties that were found below a mapped path so far
abbrev pub found_below : Option JsonValue → Members
found_below None = no_members
found_below (Some form) = unwrap_or (properties_in form) no_members

-- a mapped path is named where something below it is added, and not before
abbrev pub form_above : Kind → Option JsonValue → Members → Option JsonValue
form_above kind None no_members = None
form_above kind None (member k d ps) = Some (holding kind (member k d ps))
form_above kind (Some form) ps = Some (holding kind ps)

-- the properties with what a member adds, by the field at its path if there is one
abbrev pub with_member : Mapping → List ℕ → JsonValue → (Members → Members) → Option ℕ → Members → Members
with_member m k d add None ps = with_form k (form_after (first_value d) (unmapped_below d) (member_of ps k)) ps
with_member m k d add (Some f) ps =
    if holds_objects (kind_at m f)
    then with_form k (form_above (kind_at m f) (member_of ps k) (add (found_below (member_of ps k)))) ps
    else ps

-- the same below the path of a mapped field whose values are objects, or below the root's, which is empty
abbrev mutual
  pub mapped_below : Mapping → List ℕ → JsonValue → Members → Members
  mapped_below m path null ps = ps
  mapped_below m path (bool b) ps = ps
  mapped_below m path (whole z) ps = ps
  mapped_below m path (text s) ps = ps
  mapped_below m path (list ds) ps = mapped_in m path ds ps
  mapped_below m path (object ms) ps = mapped_among m path ms ps

  pub mapped_in : Mapping → List ℕ → Elements → Members → Members
  mapped_in m path no_elements ps = ps
  mapped_in m path (element d ds) ps = mapped_in m path ds (mapped_below m path d ps)

  pub mapped_among : Mapping → List ℕ → Members → Members → Members
  mapped_among m path no_members ps = ps
  mapped_among m path (member k d ms) ps =
      mapped_among m path ms
      (if is_property_name k
      then with_member m k d (mapped_below m (joined path k) d) (field_below m (generation_of m) path k) ps
      else ps)

-- ---- the body

-- a body has `properties` alone, and there is none where nothing is added
abbrev pub body_with : Members → Option JsonValue
body_with no_members = None
body_with (member k d ps) = Some (plain (member k d ps))

-- the body that a source adds to a mapping
unfoldable pub growth : Mapping → JsonValue → Option JsonValue
growth m (object ms) = body_with (mapped_among m [] ms no_members)
growth m null = None
growth m (bool b) = None
growth m (whole z) = None
growth m (text s) = None
growth m (list ds) = None
