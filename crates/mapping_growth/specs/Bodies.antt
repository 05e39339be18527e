-- Which bodies are a mapping: what a body may not say beside those before it, and how much bodies may have together.
use Rattle.std.specs.Prelude.{◌≡◌, ℕ, ◌<◌, Bool, true, false, not, ◌&&◌, ◌||◌, ◌==◌, if◌then◌else◌, nat_lt, List, [], ◌∷◌, ◌++◌, length, take, drop, find, sum_by, codes, Option, Some, None, option_map, option_and_then, slice_get}
use Rattle.std.specs.List.{list_any, list_all, count_by}
use Rattle.std.specs.Str.{bytes_eq}
use Rattle.tree_json.specs.Value.{JsonValue, bool, object, member}
use Rattle.tree_json.specs.Text.{compact}
use Rattle.mapping_body.specs.declared.refusal.Limit.{Limit}
use Rattle.mapping_body.specs.declared.refusal.Limit.TheVariants.{Fields, Depth, Nested, Relations, Generations, Size}
use Rattle.mapping_body.specs.declared.refusal.TheConstants.{MOST_FIELDS, MOST_NAMES, MOST_NESTED, MOST_BODIES, MOST_BYTES}
use Rattle.mapping_body.specs.Names.{place_of, name_count}
use Rattle.mapping_body.specs.Body.{Property, properties_of, is_body, kind_of, is_nested, is_join, member_named}
use Rattle.mapping_growth.specs.Fields.{Draft, draft_paths, properties_added, drafts_of, additions_of}
use Rattle.mapping_body.specs.Pairs.{Pair, pairs_of_said, pairs_of, has_two_parents, lacks_names}
use Rattle.mapping_growth.specs.Relations.{Relation, relation_names, relations_of, names_added, turns_back}
use Rattle.mapping_body.specs.Code.{is_same_kind}

-- ---- conflicts with what is kept

-- a flag is given, and isn't the kept one; one that is left out keeps its value
abbrev pub is_other_flag : Bool → Option JsonValue → Bool
is_other_flag kept (Some (bool b)) = if kept then not b else b
is_other_flag kept v = false

abbrev pub is_named : List ℕ → Option Relation → Bool
is_named name None = false
is_named name (Some r) = bytes_eq r.name name

abbrev pub parent_is : List Relation → List ℕ → Relation → Bool
parent_is rs name r = is_named name (option_and_then (slice_get rs) r.parent)

-- a kept name is given a parent that it didn't have
abbrev pub has_new_parent : List Relation → List ℕ → Option Relation → Bool
has_new_parent rs parent None = false
has_new_parent rs parent (Some r) = not (parent_is rs parent r)

abbrev pub is_number : ℕ → Option ℕ → Bool
is_number n None = false
is_number n (Some k) = k == n

abbrev pub has_children : List Relation → ℕ → Bool
has_children rs n = list_any (λ r. is_number n r.parent) rs

-- a kept name without children becomes a parent
abbrev pub becomes_parent : List Relation → Option ℕ → Bool
becomes_parent rs None = false
becomes_parent rs (Some n) = not (has_children rs n)

abbrev pub relation_place : List Relation → List ℕ → Option ℕ
relation_place rs name = place_of name (relation_names rs)

abbrev pub clashes : List Relation → Pair → Bool
clashes rs p =
    has_new_parent rs p.parent (option_and_then (slice_get rs) (relation_place rs p.child))
    || becomes_parent rs (relation_place rs p.parent)

-- a form gives a kept field another kind or another flag
abbrev pub differs : Draft → JsonValue → Bool
differs d form =
    not (is_same_kind d.kind (kind_of form))
    || (is_other_flag d.in_parent (member_named form (codes "include_in_parent"))
    || is_other_flag d.in_root (member_named form (codes "include_in_root")))

-- a form says otherwise than the kept field at its path
abbrev pub is_otherwise : List Relation → JsonValue → Option Draft → Bool
is_otherwise rs form None = false
is_otherwise rs form (Some d) = differs d form || list_any (clashes rs) (pairs_of_said form)

abbrev pub draft_named : List Draft → List ℕ → Option Draft
draft_named ds path = option_and_then (slice_get ds) (place_of path (draft_paths ds))

-- The path of the first property of a body, in byte order and depth first, by which a kept path is given another kind or
-- another flag, or a kept relation a parent that it didn't have or, being no parent so far, a child.
unfoldable pub conflict_of : List JsonValue → JsonValue → Option (List ℕ)
conflict_of bodies body =
    option_map (λ p. p.path)
    (find (λ p. is_otherwise (relations_of bodies) p.form (draft_named (drafts_of bodies) p.path)) (properties_of body))

-- the body adds a property or the name of a relation
abbrev pub adds : List JsonValue → JsonValue → Bool
adds bodies body =
    nat_lt 0 (length (properties_added (draft_paths (drafts_of bodies)) body))
    || nat_lt 0 (length (names_added (relation_names (relations_of bodies)) (pairs_of body)))

-- ---- how much bodies may have together

abbrev pub is_deep : Property → Bool
is_deep p = nat_lt MOST_NAMES (name_count p.path)

abbrev pub says_nested : Property → Bool
says_nested p = is_nested (kind_of p.form)

abbrev pub says_join : Property → Bool
says_join p = is_join (kind_of p.form)

-- a join field below the top level, or one without relations
abbrev pub is_bad_join : Property → Bool
is_bad_join p = says_join p && (nat_lt 1 (name_count p.path) || lacks_names (member_named p.form (codes "relations")))

-- two join fields, one below the top level, or one without relations
abbrev pub has_bad_joins : List JsonValue → Bool
has_bad_joins bodies = nat_lt 1 (count_by says_join (additions_of bodies)) || list_any is_bad_join (additions_of bodies)

-- or a name with two parents, or a name that is its own ancestor
abbrev pub has_bad_relations : List JsonValue → Bool
has_bad_relations bodies =
    has_bad_joins bodies
    || (list_any (λ body. has_two_parents (pairs_of body)) bodies
    || turns_back (relations_of bodies))

abbrev pub compact_size : List JsonValue → ℕ
compact_size bodies = sum_by (λ body. length (compact body)) bodies

-- the first limit that bodies exceed together
unfoldable pub exceeded : List JsonValue → Option Limit
exceeded bodies =
    if nat_lt MOST_FIELDS (length (additions_of bodies)) then Some Fields
    else (if list_any is_deep (additions_of bodies) then Some Depth
    else (if nat_lt MOST_NESTED (count_by says_nested (additions_of bodies)) then Some Nested
    else (if has_bad_relations bodies then Some Relations
    else (if nat_lt MOST_BODIES (length bodies) then Some Generations
    else (if nat_lt MOST_BYTES (compact_size bodies) then Some Size
    else None)))))

-- ---- which bodies are a mapping

-- a body that stands behind others: it has no conflict with them, and adds something
pub record IsNext (before : List JsonValue) (body : JsonValue) : Type 0 where
  pub agrees : conflict_of before body ≡ None
  pub adds_more : adds before body ≡ true

abbrev pub AreNext : List JsonValue → List JsonValue → Type 0
AreNext before [] = Unit {0}
AreNext before (body ∷ bodies) = IsNext before body × AreNext (before ++ body ∷ []) bodies

pub record AreBodies (bodies : List JsonValue) : Type 0 where
  pub some : 0 < length bodies
  pub forms : list_all is_body bodies ≡ true
  pub next : AreNext (take 1 bodies) (drop 1 bodies)
  pub limits : exceeded bodies ≡ None
