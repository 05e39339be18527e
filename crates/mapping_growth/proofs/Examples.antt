-- Conflicts worked out by hand from the rules: what the definition computes is what they say.
use Rattle.std.proofs.Common.{◌≡◌, ℕ, List as Seq, [], ◌∷◌, codes, refl, true, false, Option, Some, None}
use Rattle.tree_json.specs.Value.{JsonValue, bool, text, list, object, elements_of, members_of}
use Rattle.mapping_growth.specs.Bodies.{conflict_of}
use Rattle.mapping_growth.specs.Fields.{drafts_of}
use Rattle.mapping_growth.specs.Relations.{relations_of}

abbrev obj : Seq (Seq ℕ × JsonValue) → JsonValue
obj ms = object (members_of ms)

abbrev body : Seq (Seq ℕ × JsonValue) → JsonValue
body ps = obj ((codes "properties", obj ps) ∷ [])

abbrev typed : Seq ℕ → JsonValue
typed kind = obj ((codes "type", text kind) ∷ [])

abbrev join : Seq (Seq ℕ × JsonValue) → JsonValue
join pairs = obj ((codes "relations", obj pairs) ∷ (codes "type", text (codes "join")) ∷ [])

-- a plain object, a nested field that its parent includes with a price in it, a join field and a text
abbrev kept : Seq JsonValue
kept = body (
    (codes "a", typed (codes "object"))
    ∷ (
      codes "n",
      obj (
          (codes "include_in_parent", bool true) ∷ (codes "properties", obj ((codes "price", typed (codes "long")) ∷ [])) ∷ (codes "type", text (codes "nested")) ∷ []),
    )
    ∷ (codes "r", join ((codes "question", text (codes "answer")) ∷ [])) ∷ (codes "t", typed (codes "text")) ∷ []) ∷ []

abbrev conflict : Seq (Seq ℕ × JsonValue) → Option (Seq ℕ)
conflict ps = conflict_of kept (body ps)

-- ---- kinds

same_kind : conflict ((codes "t", typed (codes "text")) ∷ (codes "z", typed (codes "keyword")) ∷ []) ≡ None
unfolding conflict_of drafts_of relations_of
same_kind = refl

other_kind : conflict ((codes "t", typed (codes "keyword")) ∷ []) ≡ Some (codes "t")
unfolding conflict_of drafts_of relations_of
other_kind = refl

-- a plain object given as nested, and the other way round
plain_as_nested : conflict ((codes "a", typed (codes "nested")) ∷ []) ≡ Some (codes "a")
unfolding conflict_of drafts_of relations_of
plain_as_nested = refl

nested_as_plain : conflict ((codes "n", obj ((codes "properties", obj []) ∷ [])) ∷ []) ≡ Some (codes "n")
unfolding conflict_of drafts_of relations_of
nested_as_plain = refl

-- ---- flags: one that is left out keeps its value

left_out : conflict ((codes "n", typed (codes "nested")) ∷ []) ≡ None
unfolding conflict_of drafts_of relations_of
left_out = refl

other_flag : conflict ((codes "n", obj ((codes "include_in_parent", bool false) ∷ (codes "type", text (codes "nested")) ∷ [])) ∷ []) ≡ Some (codes "n")
unfolding conflict_of drafts_of relations_of
other_flag = refl

new_flag : conflict ((codes "n", obj ((codes "include_in_root", bool true) ∷ (codes "type", text (codes "nested")) ∷ [])) ∷ []) ≡ Some (codes "n")
unfolding conflict_of drafts_of relations_of
new_flag = refl

false_flag : conflict ((codes "n", obj ((codes "include_in_root", bool false) ∷ (codes "type", text (codes "nested")) ∷ [])) ∷ []) ≡ None
unfolding conflict_of drafts_of relations_of
false_flag = refl

-- ---- relations

-- a parent may have further children, and new names may stand by themselves
further_child : conflict ((codes "r", join ((codes "question", text (codes "comment")) ∷ (codes "x", text (codes "y")) ∷ [])) ∷ []) ≡ None
unfolding conflict_of drafts_of relations_of
further_child = refl

-- a name without children can't become a parent
new_parent : conflict ((codes "r", join ((codes "answer", text (codes "comment")) ∷ [])) ∷ []) ≡ Some (codes "r")
unfolding conflict_of drafts_of relations_of
new_parent = refl

-- nor can a name be given another parent, or a first one
other_parent : conflict ((codes "r", join ((codes "x", text (codes "answer")) ∷ [])) ∷ []) ≡ Some (codes "r")
unfolding conflict_of drafts_of relations_of
other_parent = refl

first_parent : conflict ((codes "r", join ((codes "x", list (elements_of (text (codes "y") ∷ text (codes "question") ∷ []))) ∷ [])) ∷ []) ≡ Some (codes "r")
unfolding conflict_of drafts_of relations_of
first_parent = refl

-- ---- of two conflicts the first in byte order and depth first, a field before what is below it

depth_first : conflict ((codes "n", obj ((codes "properties", obj ((codes "price", typed (codes "text")) ∷ [])) ∷ (codes "type", text (codes "nested")) ∷ [])) ∷ (codes "t", typed (codes "long")) ∷ [])
    ≡ Some (codes "n.price")
unfolding conflict_of drafts_of relations_of
depth_first = refl

field_first : conflict ((codes "n", obj ((codes "properties", obj ((codes "price", typed (codes "text")) ∷ [])) ∷ [])) ∷ (codes "t", typed (codes "long")) ∷ []) ≡ Some (codes "n")
unfolding conflict_of drafts_of relations_of
field_first = refl

in_byte_order : conflict ((codes "r", join ((codes "answer", text (codes "comment")) ∷ [])) ∷ (codes "t", typed (codes "long")) ∷ []) ≡ Some (codes "r")
unfolding conflict_of drafts_of relations_of
in_byte_order = refl
