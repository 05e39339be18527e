-- Serves proofs alone: what a walk meets that knows of an object its generation, its scope and its content. A law ties it
-- to the objects of a tree.
use Rattle.std.specs.Prelude.{ℕ, zero, suc, ◌+◌, ◌==◌, ℤ, nat_le, nat_lt, if◌then◌else◌, List, [], ◌∷◌, ◌++◌, length, filter, Option, Some, None}
use Rattle.std.specs.Ordering.{int_cmp}
use Rattle.std.specs.List.{filter_map, flat_map, range_with_len}
use Rattle.mapping.specs.Mapping.{Mapping, kind_at, home_of, scope_at, names_to, knows, shows, outer, kids}
use Rattle.mapping_body.specs.Names.{dot, names_of}
use Rattle.segment.specs.Flat.{FlatDocument, has_some}
use Rattle.tree_json.specs.Value.{JsonValue, is_object}
use Rattle.tree_objects.specs.Object.{items, way}
use Rattle.tree_objects.specs.Values.{convert}
use Rattle.tree_objects.specs.declared.field_value.FieldValue.{FieldValue}
use Rattle.tree_objects.specs.declared.field_value.FieldValue.TheVariants.{Number, Written}
use Rattle.flattener.specs.Flat.{ascending, bytes_cmp, has_numbers, is_keyword, is_text, numbers_in, texts_in, tokens, words_of_field}

-- ---- names of a path

-- the names of what stands behind a dot, which are one or more
abbrev pub names_behind : List ℕ → List (List ℕ)
names_behind [] = [] ∷ []
names_behind (byte ∷ path) = names_of (byte ∷ path)

-- and none where no dot stands
abbrev pub names_left : Option (List ℕ) → List (List ℕ)
names_left None = []
names_left (Some path) = names_behind path

abbrev pub first_name : List ℕ → List ℕ
first_name [] = []
first_name (byte ∷ path) = if byte == dot then [] else byte ∷ first_name path

abbrev pub behind_name : List ℕ → Option (List ℕ)
behind_name [] = None
behind_name (byte ∷ path) = if byte == dot then Some path else behind_name path

-- where the names below a path begin in the path of what stands there
abbrev pub start_below : List ℕ → ℕ
start_below [] = 0
start_below (byte ∷ above) = length (byte ∷ above) + 1

-- ---- contents

abbrev pub children_at : Mapping → ℕ → ℕ → JsonValue → List JsonValue
children_at m g n v = if nat_le (scope_at m n).since g then filter is_object (items v (scope_at m n).names) else []

abbrev pub along : Mapping → ℕ → List ℕ → JsonValue → List JsonValue
along m g [] v = v ∷ []
along m g (n ∷ ns) v = flat_map (along m g ns) (children_at m g n v)

-- each object by its scope and its content, in the order of the block
abbrev pub walked : Mapping → ℕ → ℕ → ℕ → JsonValue → List (ℕ × JsonValue)
walked m g zero s v = (s, v) ∷ []
walked m g (suc left) s v = flat_map (λ n. flat_map (walked m g left n) (children_at m g n v)) (kids m s) ++ ((s, v) ∷ [])

-- ---- values

-- the items that a field has at an object of its home
abbrev pub own_items : Mapping → ℕ → ℕ → JsonValue → List JsonValue
own_items m g f v = if knows m g f then items v (names_to m f) else []

-- and those that an object at a scope shows
abbrev pub shown_items : Mapping → ℕ → ℕ → ℕ → JsonValue → List JsonValue
shown_items m g f s v =
    if home_of m f == s then own_items m g f v
    else (if shows m g f s then flat_map (own_items m g f) (along m g (way m s (home_of m f)) v) else [])

abbrev pub values_at : Mapping → ℕ → ℕ → ℕ → JsonValue → List FieldValue
values_at m g f s v = filter_map (convert (kind_at m f)) (shown_items m g f s v)

-- ---- what a field adds to the document

abbrev pub kept : {X : Type 0} → ℕ × List X → List (ℕ × List X)
kept {X} pair = if has_some pair then pair ∷ [] else []

abbrev pub numbers_of : Mapping → ℕ → ℕ → JsonValue → ℕ → List (ℕ × List ℤ)
numbers_of m g s v f = if has_numbers (kind_at m f) then kept (f, ascending int_cmp (numbers_in (values_at m g f s v))) else []

abbrev pub keywords_of : Mapping → ℕ → ℕ → JsonValue → ℕ → List (ℕ × List (List ℕ))
keywords_of m g s v f = if is_keyword (kind_at m f) then kept (f, ascending bytes_cmp (texts_in (values_at m g f s v))) else []

abbrev pub words_of : Mapping → ℕ → ℕ → JsonValue → ℕ → List ((ℕ × List ℕ) × List ℕ)
words_of m g s v f = if is_text (kind_at m f) then words_of_field f (tokens (texts_in (values_at m g f s v))) else []

abbrev pub valued : {X : Type 0} → ℕ → List X → List ℕ
valued {X} f xs = if nat_lt 0 (length xs) then f ∷ [] else []

abbrev pub texts_of : Mapping → ℕ → ℕ → JsonValue → ℕ → List ℕ
texts_of m g s v f = if is_text (kind_at m f) then valued f (texts_in (values_at m g f s v)) else []

abbrev pub flat_at : Mapping → ℕ → ℕ → JsonValue → FlatDocument
flat_at m g s v = record {
  scope = s;
  numbers = flat_map (numbers_of m g s v) (range_with_len 0 (length m.fields));
  keywords = flat_map (keywords_of m g s v) (range_with_len 0 (length m.fields));
  words = flat_map (words_of m g s v) (range_with_len 0 (length m.fields));
  texts = flat_map (texts_of m g s v) (range_with_len 0 (length m.fields));
}

abbrev pub flat_pair : Mapping → ℕ → ℕ × JsonValue → FlatDocument
flat_pair m g pair = flat_at m g pair.0 pair.1

-- the number of one value, and its text
abbrev pub one_number : Option FieldValue → List ℤ
one_number None = []
one_number (Some (Number z)) = z ∷ []
one_number (Some (Written s)) = []

abbrev pub one_text : Option FieldValue → List (List ℕ)
one_text None = []
one_text (Some (Number z)) = []
one_text (Some (Written s)) = s ∷ []

-- the objects inside an object at some nested paths, of those whose scope around is its own
abbrev pub inside_at : Mapping → ℕ → ℕ → ℕ → JsonValue → List ℕ → List (ℕ × JsonValue)
inside_at m g left s v ns = flat_map (λ n. flat_map (walked m g left n) (children_at m g n v)) (filter (λ n. outer m n == s) ns)

abbrev pub inner : Mapping → ℕ → ℕ → ℕ → JsonValue → List (ℕ × JsonValue)
inner m g zero s v = []
inner m g (suc left) s v = flat_map (λ n. flat_map (walked m g left n) (children_at m g n v)) (kids m s)

-- those of some items at a nested path, each with what stands inside it
abbrev pub walked_of : Mapping → ℕ → ℕ → ℕ → List JsonValue → List (ℕ × JsonValue)
walked_of m g left n vs = flat_map (walked m g left n) (filter is_object vs)

-- and at one nested path, if it is one of these
abbrev pub kid_part : Mapping → ℕ → ℕ → ℕ → JsonValue → ℕ → List (ℕ × JsonValue)
kid_part m g left s v kid = if outer m kid == s then flat_map (walked m g left kid) (children_at m g kid v) else []
