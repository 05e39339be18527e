-- The compact text of a sound value reads back as that value.
use Rattle.std.proofs.Common.{◌≡◌, ℕ, suc, ◌^◌, ◌≤◌, ℤ, pos, negsuc, Bool, true, false, List as Seq, [], ◌∷◌, ◌++◌, codes, Option, Some, Less, Greater, map, option_map, option_and_then, refl, sym, ap, subst, ◌∙◌, append_assoc, append-nil, arith}
use Rattle.std.proofs.lemmas.Bool.{lt-ltb}
use Rattle.std.proofs.lemmas.Cmp.{nat_list_cmp_total}
use Rattle.std.proofs.lemmas.Fmt.{IsAscii-decimal}
use Rattle.std.proofs.lemmas.Str.{IsUtf8-append, IsUtf8-nil, IsUtf8-from_ascii, is_utf8-from_IsUtf8}
use Rattle.std.specs.Cmp.Lexicographic.{slice_cmp}
use Rattle.std.specs.Fmt.{signed_decimal}
use Rattle.std.specs.List.{AllByRecursion}
use Rattle.std.specs.List.Sorted.{IsStrictlySortedBy}
use Rattle.std.specs.Ordering.{nat_cmp, ordering_reverse}
use Rattle.std.specs.Str.{IsUtf8}
use Rattle.json.specs.Json as json
use Rattle.json.specs.Token.{Token}
use Rattle.json.specs.Tree.{json_tokens}
use Rattle.json.proofs.Printed.Tokens.{tokens-print}
use Rattle.json.proofs.Printed.Trees.{value-json_tokens, ArePrintable-json_tokens}
use Rattle.json.proofs.Printed.Utf8.{IsUtf8-are_ascii, IsUtf8-quoted}
use Rattle.serde_json.specs.Data as source
use Rattle.serde_json.specs.Find.{as_i64}
use Rattle.serde_json.specs.Read.{number_of, of_json, of_items, of_members, read}
use Rattle.serde_json.specs.Written.{number_text, outline, items_outline, members_outline}
use Rattle.serde_json.proofs.Numbers.{number_of-decimal, number_of-negative}
use Rattle.serde_json.proofs.Texts.{print-outline}
use Rattle.tree_json.specs.Levels.{levels, most_levels}
use Rattle.tree_json.specs.Names.{IsAscending}
use Rattle.tree_json.specs.Reading.{whole_value, whole_elements, whole_members, value, reading}
use Rattle.tree_json.specs.Sound.{IsOf64, names_in, IsSound, AreSound, MembersAreSound}
use Rattle.tree_json.specs.Text.{quoted, comma_if, bool_text, compact, compact_elements, compact_members}
use Rattle.tree_json.specs.Value.{JsonValue, null, bool, whole, text, list, object, Elements, no_elements, element, Members, no_members, member, members_of}
use Rattle.tree_json.proofs.AsData.{number_data, data_of, items_of, pairs_of, AreOf64, ElementsAreOf64, MembersAreOf64, same_text, same_depth, has_numbers}

-- ---- the text is UTF-8

utf8_whole : (z : ℤ) → IsOf64 z → IsUtf8 (signed_decimal z)
utf8_whole (pos n) h = IsUtf8-from_ascii _ (IsAscii-decimal n (omega arith))
utf8_whole (negsuc n) h = IsUtf8-append (45 ∷ []) _ (IsUtf8-are_ascii (45 ∷ []) refl) (IsUtf8-from_ascii _ (IsAscii-decimal (suc n) (omega arith)))

utf8_bool : (b : Bool) → IsUtf8 (bool_text b)
utf8_bool true = IsUtf8-are_ascii _ refl
utf8_bool false = IsUtf8-are_ascii _ refl

utf8_comma : (later : Bool) → IsUtf8 (comma_if later)
utf8_comma true = IsUtf8-are_ascii _ refl
utf8_comma false = IsUtf8-nil

utf8_quoted : (s : Seq ℕ) → IsUtf8 s → IsUtf8 (quoted s)
unfolding quoted
utf8_quoted s h = IsUtf8-quoted s h

mutual
  utf8_text : (v : JsonValue) → IsSound v → IsUtf8 (compact v)
  utf8_text null h = IsUtf8-are_ascii _ refl
  utf8_text (bool b) h = utf8_bool b
  utf8_text (whole z) h = utf8_whole z h
  utf8_text (text s) h = utf8_quoted s h
  utf8_text (list ds) h =
      IsUtf8-append (codes "[") _ (IsUtf8-are_ascii _ refl) (IsUtf8-append _ (codes "]") (utf8_elements false ds h) (IsUtf8-are_ascii _ refl))
  utf8_text (object ms) h =
      IsUtf8-append (codes "{") _ (IsUtf8-are_ascii _ refl) (IsUtf8-append _ (codes "}") (utf8_members false ms h.0) (IsUtf8-are_ascii _ refl))

  utf8_elements : (later : Bool) (ds : Elements) → AreSound ds → IsUtf8 (compact_elements later ds)
  utf8_elements later no_elements h = IsUtf8-nil
  utf8_elements later (element d ds) h =
      IsUtf8-append _ _ (utf8_comma later) (IsUtf8-append _ _ (utf8_text d h.0) (utf8_elements true ds h.1))

  utf8_members : (later : Bool) (ms : Members) → MembersAreSound ms → IsUtf8 (compact_members later ms)
  utf8_members later no_members h = IsUtf8-nil
  utf8_members later (member k d ms) h =
      let name = IsUtf8-append _ _ (utf8_quoted k h.0.0) (IsUtf8-append (codes ":") _ (IsUtf8-are_ascii _ refl) (utf8_text d h.0.1)) in
      IsUtf8-append _ _ (utf8_comma later) (IsUtf8-append _ _ name (utf8_members true ms h.1))

-- ---- names that ascend go in one behind the other

abbrev names_of : source.Members → Seq (Seq ℕ)
names_of source.no_members = []
names_of (source.member k d ms) = k ∷ names_of ms

abbrev joined : source.Members → source.Members → source.Members
joined source.no_members more = more
joined (source.member k d ms) more = source.member k d (joined ms more)

abbrev one : Seq ℕ → source.Data → source.Members
one k d = source.member k d source.no_members

joined_none : (found : source.Members) → joined found source.no_members ≡ found
joined_none source.no_members = refl
joined_none (source.member k d found) = ap (source.member k d) (joined_none found)

joined_assoc : (a : source.Members) (k : Seq ℕ) (d : source.Data) (more : source.Members) → joined (joined a (one k d)) more ≡ joined a (source.member k d more)
joined_assoc source.no_members k d more = refl
joined_assoc (source.member l e a) k d more = ap (source.member l e) (joined_assoc a k d more)

names_joined : (a : source.Members) (k : Seq ℕ) (d : source.Data) → names_of (joined a (one k d)) ≡ names_of a ++ k ∷ []
names_joined source.no_members k d = refl
names_joined (source.member l e a) k d = ap (λ ns. l ∷ ns) (names_joined a k d)

below_middle : (l : Seq ℕ) (done : Seq (Seq ℕ)) (k : Seq ℕ) (more : Seq (Seq ℕ)) → AllByRecursion (λ y. slice_cmp nat_cmp l y ≡ Less) (done ++ k ∷ more) → slice_cmp nat_cmp l k ≡ Less
below_middle l [] k more h = h.0
below_middle l (x ∷ done) k more h = below_middle l done k more h.1

put_last : (found : source.Members) (k : Seq ℕ) (d : source.Data) (more : Seq (Seq ℕ)) → IsStrictlySortedBy (slice_cmp nat_cmp) (names_of found ++ k ∷ more)
    → source.put k d found ≡ joined found (one k d)
unfolding IsStrictlySortedBy
put_last source.no_members k d more h = refl
put_last (source.member l e found) k d more h =
    let above : slice_cmp nat_cmp k l ≡ Greater = nat_list_cmp_total.antisymm k l ∙ ap ordering_reverse (below_middle l (names_of found) k more h.0) in
    rw above (ap (source.member l e) (put_last found k d more h.1))

-- ---- what is read of the text

number_read : (z : ℤ) → IsOf64 z → number_of (number_text (number_data z)) ≡ Some (number_data z)
number_read (pos n) h = number_of-decimal n (omega arith)
number_read (negsuc n) h = number_of-negative n h

mutual
  data_back : (v : JsonValue) → IsSound v → of_json (outline (data_of v)) ≡ Some (data_of v)
  data_back null h = refl
  data_back (bool b) h = refl
  data_back (whole z) h = ap (option_map source.number) (number_read z h)
  data_back (text s) h = refl
  data_back (list ds) h = ap (option_map source.array) (items_back ds h)
  data_back (object ms) h = ap (option_map source.object) (pairs_back ms source.no_members h.0 h.1)

  items_back : (ds : Elements) → AreSound ds → of_items (items_outline (items_of ds)) ≡ Some (items_of ds)
  items_back no_elements h = refl
  items_back (element d ds) h = rw (data_back d h.0, items_back ds h.1) refl

  pairs_back : (ms : Members) (found : source.Members) → MembersAreSound ms → IsStrictlySortedBy (slice_cmp nat_cmp) (names_of found ++ names_in ms)
      → of_members (members_outline (pairs_of ms)) found ≡ Some (joined found (pairs_of ms))
  pairs_back no_members found h sorted = ap Some (sym (joined_none found))
  pairs_back (member k d ms) found h sorted =
      let more : IsStrictlySortedBy (slice_cmp nat_cmp) (names_of (joined found (one k (data_of d))) ++ names_in ms)
      = subst (IsStrictlySortedBy (slice_cmp nat_cmp)) (sym (ap (λ ns. ns ++ names_in ms) (names_joined found k (data_of d)) ∙ append_assoc (names_of found) (k ∷ []) (names_in ms))) sorted in
      rw (data_back d h.0.1, put_last found k (data_of d) (names_in ms) sorted)
      (pairs_back ms (joined found (one k (data_of d))) h.1 more ∙ ap Some (joined_assoc found k (data_of d) (pairs_of ms)))

whole_back : (z : ℤ) → IsOf64 z → as_i64 (number_data z) ≡ Some z
whole_back (pos n) h = rw (lt-ltb n (2 ^ 63) h) refl
whole_back (negsuc n) h = refl

mutual
  value_back : (v : JsonValue) → IsSound v → whole_value (data_of v) ≡ Some v
  value_back null h = refl
  value_back (bool b) h = refl
  value_back (whole z) h = ap (option_map whole) (whole_back z h)
  value_back (text s) h = refl
  value_back (list ds) h = ap (option_map list) (elements_back ds h)
  value_back (object ms) h = ap (option_map object) (members_back ms h.0)

  elements_back : (ds : Elements) → AreSound ds → whole_elements (items_of ds) ≡ Some ds
  elements_back no_elements h = refl
  elements_back (element d ds) h = rw (value_back d h.0, elements_back ds h.1) refl

  members_back : (ms : Members) → MembersAreSound ms → whole_members (pairs_of ms) ≡ Some ms
  members_back no_members h = refl
  members_back (member k d ms) h = rw (value_back d h.0.1, members_back ms h.1) refl

-- ---- the text is read

mutual
  of_64 : (v : JsonValue) → IsSound v → AreOf64 v
  of_64 null h = tt
  of_64 (bool b) h = tt
  of_64 (whole z) h = h
  of_64 (text s) h = tt
  of_64 (list ds) h = elements_of_64 ds h
  of_64 (object ms) h = members_of_64 ms h.0

  elements_of_64 : (ds : Elements) → AreSound ds → ElementsAreOf64 ds
  elements_of_64 no_elements h = tt
  elements_of_64 (element d ds) h = (of_64 d h.0, elements_of_64 ds h.1)

  members_of_64 : (ms : Members) → MembersAreSound ms → MembersAreOf64 ms
  members_of_64 no_members h = tt
  members_of_64 (member k d ms) h = (of_64 d h.0.1, members_of_64 ms h.1)

abbrev found_in : Option (json.Json × Seq Token) → Option source.Data
found_in found = option_and_then of_json (option_and_then (λ p. json.if_last p.0 p.1) found)

read_text : (v : JsonValue) → IsSound v → levels v ≤ most_levels → read (compact v) ≡ Some (data_of v)
read_text v h shallow =
    let j = outline (data_of v) in
    ap read (sym (print-outline (data_of v) ∙ same_text v))
    ∙ ap (λ ts. found_in (json.value most_levels ts)) (tokens-print (json_tokens j) (ArePrintable-json_tokens j (has_numbers v (of_64 v h))) ∙ sym (append-nil (json_tokens j)))
    ∙ ap found_in (value-json_tokens j most_levels [] (omega (arith, same_depth v, shallow)))
    ∙ data_back v h

-- a sound value of few levels reads back
pub reads_back : (v : JsonValue) → IsSound v → levels v ≤ most_levels → reading (compact v) ≡ value v
unfolding reading
reads_back v h shallow = rw (is_utf8-from_IsUtf8 (compact v) (utf8_text v h), read_text v h shallow, value_back v h) refl

-- ---- a value that a `Json` holds is sound

names_are : (ms : Seq (Seq ℕ × JsonValue)) → names_in (members_of ms) ≡ map (λ m. m.0) ms
names_are [] = refl
names_are (m ∷ ms) = ap (λ ns. m.0 ∷ ns) (names_are ms)

pub sound_object : (ms : Seq (Seq ℕ × JsonValue)) → MembersAreSound (members_of ms) → IsAscending ms → IsSound (object (members_of ms))
sound_object ms each ascending = (each, subst (IsStrictlySortedBy (slice_cmp nat_cmp)) (sym (names_are ms)) ascending)
