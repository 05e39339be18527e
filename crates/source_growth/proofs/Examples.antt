-- Growths worked out by hand from the rules: what the definition computes is what they say.
use Rattle.std.proofs.Common.{◌≡◌, ℕ, pos, neg_ℤ, replicate, List as Seq, [], ◌∷◌, codes, refl, true, Option, Some, None}
use Rattle.tree_json.specs.Value.{JsonValue, null, bool, whole, text, list, object, elements_of, members_of}
use Rattle.mapping_growth.specs.Fields.{drafts_of}
use Rattle.mapping_growth.specs.Relations.{relations_of}
use Rattle.mapping.specs.Mapping.{Mapping, mapping_of}
use Rattle.source_growth.specs.Growth.{growth}

abbrev obj : Seq (Seq ℕ × JsonValue) → JsonValue
obj ms = object (members_of ms)

abbrev of : Seq JsonValue → JsonValue
of ds = list (elements_of ds)

abbrev number : ℕ → JsonValue
number n = whole (pos n)

abbrev word : Seq ℕ → JsonValue
word s = text s

abbrev typed : Seq ℕ → JsonValue
typed kind = obj ((codes "type", text kind) ∷ [])

abbrev holding : Seq (Seq ℕ × JsonValue) → JsonValue
holding ps = obj ((codes "properties", obj ps) ∷ [])

abbrev nested : Seq (Seq ℕ × JsonValue) → JsonValue
nested ps = obj ((codes "properties", obj ps) ∷ (codes "type", text (codes "nested")) ∷ [])

abbrev join : JsonValue
join = obj ((codes "relations", obj ((codes "question", text (codes "answer")) ∷ [])) ∷ (codes "type", text (codes "join")) ∷ [])

-- a plain object with a number, a nested field with a price, a join field and a text
abbrev mapping : Mapping
mapping = mapping_of (holding (
    (codes "box", holding ((codes "n", typed (codes "long")) ∷ []))
    ∷ (codes "offers", nested ((codes "price", typed (codes "long")) ∷ []))
    ∷ (codes "rel", join) ∷ (codes "t", typed (codes "text")) ∷ []) ∷ []) true

abbrev adds : JsonValue → Option JsonValue
adds source = growth mapping source

-- ---- where all is mapped nothing is added

all_mapped : adds (obj (
    (codes "box", obj ((codes "n", number 1) ∷ []))
    ∷ (codes "offers", of (obj ((codes "price", number 2) ∷ []) ∷ null ∷ []))
    ∷ (codes "rel", obj ((codes "name", word (codes "question")) ∷ [])) ∷ (codes "t", word (codes "x")) ∷ [])) ≡ None
unfolding growth drafts_of relations_of
all_mapped = refl

-- nor by an object at a field that holds none, by another value at one that holds objects, or by what is no object
other_values : adds (obj ((codes "box", number 1) ∷ (codes "offers", of (word (codes "x") ∷ [])) ∷ (codes "t", obj ((codes "z", number 1) ∷ [])) ∷ [])) ≡ None
unfolding growth drafts_of relations_of
other_values = refl

no_object : adds (of (obj ((codes "z", number 1) ∷ []) ∷ [])) ≡ None
unfolding growth
no_object = refl

-- ---- the kinds: a text is never a date, and an object may be empty

kinds : adds (obj ((codes "b", bool true) ∷ (codes "l", whole (neg_ℤ (pos 3))) ∷ (codes "o", obj []) ∷ (codes "s", word (codes "2024-01-01")) ∷ []))
    ≡ Some (holding ((codes "b", typed (codes "boolean")) ∷ (codes "l", typed (codes "long")) ∷ (codes "o", holding []) ∷ (codes "s", typed (codes "text")) ∷ []))
unfolding growth drafts_of relations_of
kinds = refl

-- ---- lists are looked through, in order, and null is no value

lists : adds (obj (
    (codes "e", of []) ∷ (codes "m", of (null ∷ of [] ∷ [])) ∷ (codes "n", null)
    ∷ (codes "p", of (null ∷ of (of [] ∷ of (number 5 ∷ []) ∷ []) ∷ word (codes "x") ∷ [])) ∷ [])) ≡ Some (holding ((codes "p", typed (codes "long")) ∷ []))
unfolding growth drafts_of relations_of
lists = refl

-- ---- the first value decides

-- a later object adds nothing below a number
first_decides : adds (obj ((codes "q", of (number 1 ∷ word (codes "x") ∷ obj ((codes "z", number 1) ∷ []) ∷ [])) ∷ [])) ≡ Some (holding ((codes "q", typed (codes "long")) ∷ []))
unfolding growth drafts_of relations_of
first_decides = refl

-- and below an object later objects add more, in byte order of their names; each path has the kind of its first value
later_objects : adds (obj ((
  codes "r",
  of (
      obj ((codes "z", number 1) ∷ []) ∷ word (codes "x") ∷ obj ((codes "y", word (codes "s")) ∷ []) ∷ of (obj ((codes "z", word (codes "t")) ∷ []) ∷ []) ∷ []),
) ∷ []))
    ≡ Some (holding ((codes "r", holding ((codes "y", typed (codes "text")) ∷ (codes "z", typed (codes "long")) ∷ [])) ∷ []))
unfolding growth drafts_of relations_of
later_objects = refl

-- an object that is found again in another object, and a value there that isn't one
deeper : adds (obj ((
  codes "r",
  of (
      obj ((codes "i", obj ((codes "b", bool true) ∷ [])) ∷ []) ∷ obj ((codes "i", number 7) ∷ [])
      ∷ obj ((codes "i", of (obj ((codes "a", null) ∷ (codes "c", number 1) ∷ []) ∷ [])) ∷ []) ∷ []),
) ∷ []))
    ≡ Some (holding ((codes "r", holding ((codes "i", holding ((codes "b", typed (codes "boolean")) ∷ (codes "c", typed (codes "long")) ∷ [])) ∷ [])) ∷ []))
unfolding growth drafts_of relations_of
deeper = refl

-- ---- names: 1 to 255 bytes and no dot; others are passed over with all below them

names : adds (obj (
    ([], number 1) ∷ (codes "a.b", number 1) ∷ (replicate 255 97, number 1) ∷ (replicate 256 97, obj ((codes "z", number 1) ∷ []))
    ∷ (codes "box.m", number 1) ∷ (codes "o", obj ((codes "c.d", number 1) ∷ [])) ∷ []))
    ≡ Some (holding ((replicate 255 97, typed (codes "long")) ∷ (codes "o", holding []) ∷ []))
unfolding growth drafts_of relations_of
names = refl

-- ---- below mapped paths, which are named where something is added below them; a nested one with its type

below_mapped : adds (obj (
    (codes "box", obj ((codes "m", obj ((codes "k", number 1) ∷ [])) ∷ []))
    ∷ (
      codes "offers",
      of (
          obj ((codes "color", word (codes "red")) ∷ []) ∷ obj ((codes "color", number 1) ∷ (codes "price", number 2) ∷ [])
          ∷ obj ((codes "stock", obj ((codes "n", number 1) ∷ [])) ∷ []) ∷ []),
    ) ∷ []))
    ≡ Some (holding (
    (codes "box", holding ((codes "m", holding ((codes "k", typed (codes "long")) ∷ [])) ∷ []))
    ∷ (codes "offers", nested ((codes "color", typed (codes "text")) ∷ (codes "stock", holding ((codes "n", typed (codes "long")) ∷ [])) ∷ [])) ∷ []))
unfolding growth drafts_of relations_of
below_mapped = refl
