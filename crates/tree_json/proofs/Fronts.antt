-- What was read so far, in front of what is left.
use Rattle.std.proofs.Common.{◌≡◌, ℕ, List, [], ◌∷◌, ◌++◌, refl, ap, sym, Option, Some, None, option_map, option_and_then, map, subst, ◌∙◌, append-nil, length, arith, Less, nat_cmp, String, string_bytes}
use Rattle.std.specs.declared.alloc.Global.{Global}
use Rattle.std.specs.Cmp.Lexicographic.{slice_cmp}
use Rattle.std.specs.List.{AllByRecursion}
use Rattle.std.specs.List.Sorted.{IsStrictlySortedBy}
use Rattle.std.specs.String.{string_cmp}
use Rattle.std.specs.Map.{keys_of}
use Rattle.tree_json.specs.Names.{IsAscending}
use Rattle.std.proofs.lemmas.List.{map-append}
use Rattle.serde_json.specs.View.{items_view, members_view, view as data_view}
use Rattle.serde_json.specs.declared.value.Value.{Value}
use Rattle.tree_json.specs.Reading.{whole_value, whole_elements, whole_members}
use Rattle.tree_json.specs.View.{view, values, entries}
use Rattle.tree_json.specs.declared.value.Json.{Json}
use Rattle.tree_json.specs.Value.{JsonValue, Elements, no_elements, element, Members, no_members, member, elements_of, members_of}

abbrev pub elements_before : List JsonValue → Elements → Elements
elements_before [] more = more
elements_before (d ∷ ds) more = element d (elements_before ds more)

abbrev pub members_before : List (List ℕ × JsonValue) → Members → Members
members_before [] more = more
members_before (m ∷ ms) more = member m.0 m.1 (members_before ms more)

pub elements_before-push : (ds : List JsonValue) (d : JsonValue) (more : Elements) → elements_before (ds ++ d ∷ []) more ≡ elements_before ds (element d more)
elements_before-push [] d more = refl
elements_before-push (e ∷ ds) d more = ap (element e) (elements_before-push ds d more)

pub members_before-push : (ms : List (List ℕ × JsonValue)) (m : List ℕ × JsonValue) (more : Members) → members_before (ms ++ m ∷ []) more ≡ members_before ms (member m.0 m.1 more)
members_before-push [] m more = refl
members_before-push (n ∷ ms) m more = ap (member n.0 n.1) (members_before-push ms m more)

pub elements_before-none : (ds : List JsonValue) → elements_before ds no_elements ≡ elements_of ds
elements_before-none [] = refl
elements_before-none (d ∷ ds) = ap (element d) (elements_before-none ds)

pub members_before-none : (ms : List (List ℕ × JsonValue)) → members_before ms no_members ≡ members_of ms
members_before-none [] = refl
members_before-none (m ∷ ms) = ap (member m.0 m.1) (members_before-none ms)

-- ---- one more, and the end

elements_step : (ds : List JsonValue) (d : JsonValue) (read : Option JsonValue) (rest : Option Elements) → read ≡ Some d
    → option_map (elements_before ds) (option_and_then (λ e. option_map (element e) rest) read) ≡ option_map (elements_before (ds ++ d ∷ [])) rest
elements_step ds d read None e = rw e refl
elements_step ds d read (Some more) e = rw e (ap Some (sym (elements_before-push ds d more)))

members_step : (ms : List (List ℕ × JsonValue)) (k : List ℕ) (d : JsonValue) (read : Option JsonValue) (rest : Option Members) → read ≡ Some d
    → option_map (members_before ms) (option_and_then (λ e. option_map (member k e) rest) read) ≡ option_map (members_before (ms ++ (k, d) ∷ [])) rest
members_step ms k d read None e = rw e refl
members_step ms k d read (Some more) e = rw e (ap Some (sym (members_before-push ms (k, d) more)))

pub elements_more : (js : List Json) (j : Json) (v : Value) (left : List Value) → whole_value (data_view v) ≡ Some (view j)
    → option_map (elements_before (values js)) (whole_elements (items_view (v ∷ left))) ≡ option_map (elements_before (values (js ++ j ∷ []))) (whole_elements (items_view left))
elements_more js j v left e = rw (map-append view js (j ∷ [])) (elements_step (values js) (view j) (whole_value (data_view v)) (whole_elements (items_view left)) e)

pub members_more : (ms : List (List ℕ × Json)) (k : String Global) (j : Json) (v : Value) (left : List (String Global × Value)) → whole_value (data_view v) ≡ Some (view j)
    → option_map (members_before (entries ms)) (whole_members (members_view ((k, v) ∷ left))) ≡ option_map (members_before (entries (ms ++ (string_bytes k, j) ∷ []))) (whole_members (members_view left))
members_more ms k j v left e = let seen : List ℕ × Json → List ℕ × JsonValue = λ m. (m.0, view m.1) in
    rw (map-append seen ms ((string_bytes k, j) ∷ [])) (members_step (entries ms) (string_bytes k) (view j) (whole_value (data_view v)) (whole_members (members_view left)) e)

pub elements_end : (js : List Json) (left : List Value) → length left ≡ 0 → option_map (elements_before (values js)) (whole_elements (items_view left)) ≡ Some (elements_of (values js))
elements_end js [] e = ap Some (elements_before-none (values js))
elements_end js (v ∷ left) e = absurd (omega arith)

pub members_end : (ms : List (List ℕ × Json)) → option_map (members_before (entries ms)) (whole_members (members_view [])) ≡ Some (members_of (entries ms))
members_end ms = ap Some (members_before-none (entries ms))

-- ---- the names of a map's entries, which ascend

abbrev pub names_of : List (String Global × Value) → List (List ℕ)
names_of es = map (λ e. string_bytes e.0) es

names_in_order : (es : List (String Global × Value)) → IsStrictlySortedBy string_cmp (keys_of es) → IsStrictlySortedBy (slice_cmp nat_cmp) (names_of es)
unfolding IsStrictlySortedBy
names_in_order [] up = tt
names_in_order (e ∷ es) up = (all_after e.0 es up.0, names_in_order es up.1)
  where
    all_after : (k : String Global) (es : List (String Global × Value)) → AllByRecursion (λ y. string_cmp k y ≡ Less) (keys_of es) → AllByRecursion (λ y. slice_cmp nat_cmp (string_bytes k) y ≡ Less) (names_of es)
    all_after k [] all = tt
    all_after k (e ∷ es) all = (all.0, all_after k es all.1)

pub IsAscending-from_names : (es : List (String Global × Value)) (ms : List (List ℕ × Json)) → IsStrictlySortedBy string_cmp (keys_of es)
    → names_of es ≡ map (λ m. m.0) (entries ms) ++ [] → IsAscending (entries ms)
IsAscending-from_names es ms up same = subst (λ (ns : List (List ℕ)). IsStrictlySortedBy (slice_cmp nat_cmp) ns) (same ∙ append-nil _) (names_in_order es up)

-- the name of one more
pub names_more : (ms : List (List ℕ × Json)) (k : String Global) (j : Json) (v : Value) (left : List (String Global × Value))
    → map (λ m. m.0) (entries ms) ++ names_of ((k, v) ∷ left) ≡ map (λ m. m.0) (entries (ms ++ (string_bytes k, j) ∷ [])) ++ names_of left
names_more [] k j v left = refl
names_more (m ∷ ms) k j v left = ap (λ ns. m.0 ∷ ns) (names_more ms k j v left)
