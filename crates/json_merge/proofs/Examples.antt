-- Merging computed: what it makes is known beforehand, so that a wrong definition doesn't check.
use Rattle.std.specs.Prelude.{◌≡◌, ℕ, pos, List as Seq, [], ◌∷◌, codes, refl}
use Rattle.tree_json.specs.Value.{JsonValue, null, whole, text, list, object, elements_of, members_of}
use Rattle.json_merge.specs.Merged.{merged}

abbrev an_object : Seq (Seq ℕ × JsonValue) → JsonValue
an_object ms = object (members_of ms)

abbrev number : ℕ → JsonValue
number n = whole (pos n)

-- an object of a price and a list
abbrev offer : JsonValue
offer = an_object ((codes "price", number 5) ∷ (codes "sites", list (elements_of (text (codes "a") ∷ text (codes "b") ∷ []))) ∷ [])

-- a member is put before, between and behind those that are there
members_are_put : merged (an_object ((codes "a", number 1) ∷ (codes "c", number 3) ∷ (codes "e", number 5) ∷ [])) (an_object ((codes "b", number 2) ∷ (codes "d", number 4) ∷ []))
    ≡ an_object ((codes "a", number 1) ∷ (codes "b", number 2) ∷ (codes "c", number 3) ∷ (codes "d", number 4) ∷ (codes "e", number 5) ∷ [])
members_are_put = refl

a_value_is_replaced : merged (an_object ((codes "n", number 2) ∷ [])) (an_object ((codes "m", number 0) ∷ (codes "n", number 1) ∷ [])) ≡ an_object ((codes "m", number 0) ∷ (codes "n", number 2) ∷ [])
a_value_is_replaced = refl

-- null doesn't take the member away
null_is_a_value : merged (an_object ((codes "price", null) ∷ [])) offer ≡ an_object ((codes "price", null) ∷ (codes "sites", list (elements_of (text (codes "a") ∷ text (codes "b") ∷ []))) ∷ [])
null_is_a_value = refl

a_list_is_replaced_whole : merged (an_object ((codes "sites", list (elements_of (text (codes "c") ∷ []))) ∷ [])) offer ≡ an_object ((codes "price", number 5) ∷ (codes "sites", list (elements_of (text (codes "c") ∷ []))) ∷ [])
a_list_is_replaced_whole = refl

objects_are_merged_inside : merged (an_object ((codes "offer", an_object ((codes "price", number 6) ∷ [])) ∷ [])) (an_object ((codes "id", number 1) ∷ (codes "offer", an_object ((codes "color", text (codes "red")) ∷ (codes "price", number 5) ∷ [])) ∷ []))
    ≡ an_object ((codes "id", number 1) ∷ (codes "offer", an_object ((codes "color", text (codes "red")) ∷ (codes "price", number 6) ∷ [])) ∷ [])
objects_are_merged_inside = refl

an_object_replaces_what_is_none : merged (an_object ((codes "n", an_object ((codes "m", number 1) ∷ [])) ∷ [])) (an_object ((codes "n", number 1) ∷ [])) ≡ an_object ((codes "n", an_object ((codes "m", number 1) ∷ [])) ∷ [])
an_object_replaces_what_is_none = refl

what_is_none_replaces_an_object : merged (an_object ((codes "n", number 1) ∷ [])) (an_object ((codes "n", offer) ∷ [])) ≡ an_object ((codes "n", number 1) ∷ [])
what_is_none_replaces_an_object = refl

no_change : merged (an_object []) offer ≡ offer
no_change = refl

into_nothing : merged offer (an_object []) ≡ offer
into_nothing = refl

-- names by bytes: one that begins another stands before it
names_in_byte_order : merged (an_object ((codes "ab", number 1) ∷ [])) (an_object ((codes "B", number 3) ∷ (codes "a", number 2) ∷ (codes "b", number 4) ∷ []))
    ≡ an_object ((codes "B", number 3) ∷ (codes "a", number 2) ∷ (codes "ab", number 1) ∷ (codes "b", number 4) ∷ [])
names_in_byte_order = refl
