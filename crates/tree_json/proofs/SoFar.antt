-- A list and an object that are read in part, in the words of the grammar.
use Rattle.std.proofs.Common.{◌≡◌, ℕ, List, [], ◌∷◌, ◌++◌, Option, Some, None, option_map, option_and_then, refl, ap, sym, ◌∙◌}
use Rattle.json.specs.Json as json
use Rattle.json.specs.Json.{parse_map}
use Rattle.json.specs.Token.{Token}
use Rattle.serde_json.specs.Data as source
use Rattle.serde_json.specs.Read.{of_json, of_items, of_members}
use Rattle.tree_json.proofs.Fronts.{elements_before, elements_before-push, elements_before-none}
use Rattle.tree_json.proofs.Insertion.{with_entry, whole_members-put}
use Rattle.tree_json.specs.Quick.{SaysElements, SaysMembers, whole_json, whole_items}
use Rattle.tree_json.specs.Reading.{whole_value, whole_elements, whole_members}
use Rattle.tree_json.specs.Value.{JsonValue, Elements, no_elements, element, members_of}

unmapped : {A : Type 0} (r : Option (A × List Token)) → r ≡ parse_map (λ a. a) r
unmapped None = refl
unmapped (Some p) = refl

twice_mapped : {A : Type 0} (f g : A → A) (r : Option (A × List Token)) → parse_map f (parse_map g r) ≡ parse_map (λ a. f (g a)) r
twice_mapped f g None = refl
twice_mapped f g (Some p) = refl

-- ---- the whole list is what was found, in front of what is read of the rest

abbrev ItemsRead : Type 0
ItemsRead = Option (json.Items × List Token)

pub record ListSoFar (all rest : ItemsRead) (found : List JsonValue) : Type 0 where
  pub done : json.Items → json.Items
  pub parses : all ≡ parse_map done rest
  pub whole : (more : json.Items) (es : Elements) → whole_items more ≡ Some es → whole_items (done more) ≡ Some (elements_before found es)

one_item : (o : Option source.Data) (q : Option source.Items) (v : JsonValue) (es : Elements) → option_and_then whole_value o ≡ Some v → option_and_then whole_elements q ≡ Some es
    → option_and_then whole_elements (option_and_then (λ d. option_map (source.item d) q) o) ≡ Some (element v es)
one_item None q v es w h = absurd (cc)
one_item (Some d) None v es w h = absurd (cc)
one_item (Some d) (Some items) v es w h = rw (w, h) refl

pub list_begun : (all : ItemsRead) → ListSoFar all all []
list_begun all = record { done = λ more. more; parses = unmapped all; whole = λ more es h. h }

pub list_more : (all rest next : ItemsRead) (found : List JsonValue) (j : json.Json) (v : JsonValue) → ListSoFar all rest found → rest ≡ parse_map (json.item j) next → whole_json j ≡ Some v
    → ListSoFar all next (found ++ v ∷ [])
list_more all rest next found j v far step w = record {
  done = λ more. far.done (json.item j more);
  parses = far.parses ∙ ap (parse_map far.done) step ∙ twice_mapped far.done (json.item j) next;
  whole = λ more es h. far.whole (json.item j more) (element v es) (one_item (of_json j) (of_items more) v es w h) ∙ ap Some (sym (elements_before-push found v es));
}

pub list_over : (all rest : ItemsRead) (found : List JsonValue) (r : List Token) → ListSoFar all rest found → rest ≡ Some (json.no_items, r) → SaysElements all found r
list_over all rest found r far over = record {
  says = far.done json.no_items;
  parses = far.parses ∙ ap (parse_map far.done) over;
  whole = far.whole json.no_items no_elements refl ∙ ap Some (elements_before-none found);
}

pub list_bad : (all rest : ItemsRead) (found : List JsonValue) → ListSoFar all rest found → rest ≡ None → all ≡ None
list_bad all rest found far none = far.parses ∙ ap (parse_map far.done) none

-- ---- the whole object is what is read of the rest, put among what was found

abbrev MembersRead : Type 0
MembersRead = Option (json.Members × List Token)

pub record ObjectSoFar (all rest : MembersRead) (found : List (List ℕ × JsonValue)) : Type 0 where
  pub done : json.Members → json.Members
  pub parses : all ≡ parse_map done rest
  pub old : source.Members
  pub follows : (more : json.Members) → of_members (done more) source.no_members ≡ of_members more old
  pub whole : whole_members old ≡ Some (members_of found)

pub object_begun : (all : MembersRead) → ObjectSoFar all all []
object_begun all = record { done = λ more. more; parses = unmapped all; old = source.no_members; follows = λ more. refl; whole = refl }

object_step : (all rest next : MembersRead) (found : List (List ℕ × JsonValue)) (k : List ℕ) (j : json.Json) (v : JsonValue) → ObjectSoFar all rest found → rest ≡ parse_map (json.member k j) next
    → (o : Option source.Data) → of_json j ≡ o → option_and_then whole_value o ≡ Some v → ObjectSoFar all next (with_entry found k v)
object_step all rest next found k j v far step None is w = absurd (cc)
object_step all rest next found k j v far step (Some d) is w = record {
  done = λ more. far.done (json.member k j more);
  parses = far.parses ∙ ap (parse_map far.done) step ∙ twice_mapped far.done (json.member k j) next;
  old = source.put k d far.old;
  follows = λ more. far.follows (json.member k j more) ∙ rw is refl;
  whole = whole_members-put far.old found k d v far.whole w;
}

pub object_more : (all rest next : MembersRead) (found : List (List ℕ × JsonValue)) (k : List ℕ) (j : json.Json) (v : JsonValue) → ObjectSoFar all rest found → rest ≡ parse_map (json.member k j) next → whole_json j ≡ Some v
    → ObjectSoFar all next (with_entry found k v)
object_more all rest next found k j v far step w = object_step all rest next found k j v far step (of_json j) refl w

pub object_over : (all rest : MembersRead) (found : List (List ℕ × JsonValue)) (r : List Token) → ObjectSoFar all rest found → rest ≡ Some (json.no_members, r) → SaysMembers all found r
object_over all rest found r far over = record {
  says = far.done json.no_members;
  parses = far.parses ∙ ap (parse_map far.done) over;
  whole = rw (far.follows json.no_members) far.whole;
}

pub object_bad : (all rest : MembersRead) (found : List (List ℕ × JsonValue)) → ObjectSoFar all rest found → rest ≡ None → all ≡ None
object_bad all rest found far none = far.parses ∙ ap (parse_map far.done) none
