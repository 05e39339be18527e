-- What a token says of the value that begins with it, in the words of the grammar.
use Rattle.std.proofs.Common.{◌≡◌, ℕ, ◌-◌, ◌<◌, ℤ, Bool, List, [], ◌∷◌, length, Option, Some, None, option_map, option_and_then, refl, ap, ap₂, ◌∙◌}
use Rattle.json.specs.Json as json
use Rattle.json.specs.Json.{parse_map, value, items, members}
use Rattle.json.specs.Lex.{tokens}
use Rattle.json.specs.Token.{Token}
use Rattle.json.proofs.Grammar.{value_is, value-begin_array, value-begin_object}
use Rattle.serde_json.specs.Data as source
use Rattle.serde_json.specs.Read.{read, of_items, of_members, number_of}
use Rattle.tree_json.specs.Quick.{Says, SaysElements, SaysMembers, SaysText, IsWhole}
use Rattle.tree_json.specs.Reading.{whole_value, whole_elements, whole_members}
use Rattle.tree_json.specs.Value.{JsonValue, null, bool, whole, text, list, object, Elements, Members, elements_of, members_of}

abbrev Tokens : Type 0
Tokens = List Token

-- ---- a value of one token

pub said_text : (depth : ℕ) (ts rest : Tokens) (s : List ℕ) → ts ≡ Token.string s ∷ rest → Says (value depth ts) (text s) rest
said_text depth ts rest s e = record { says = json.string s; parses = ap (value depth) e ∙ value_is depth _; whole = refl }

pub said_bool : (depth : ℕ) (ts rest : Tokens) (b : Bool) → ts ≡ Token.boolean b ∷ rest → Says (value depth ts) (bool b) rest
said_bool depth ts rest b e = record { says = json.boolean b; parses = ap (value depth) e ∙ value_is depth _; whole = refl }

pub said_null : (depth : ℕ) (ts rest : Tokens) → ts ≡ Token.null ∷ rest → Says (value depth ts) null rest
said_null depth ts rest e = record { says = json.null; parses = ap (value depth) e ∙ value_is depth _; whole = refl }

pub said_whole : (depth : ℕ) (ts rest : Tokens) (s : List ℕ) (z : ℤ) → ts ≡ Token.number s ∷ rest → IsWhole (number_of s) z → Says (value depth ts) (whole z) rest
said_whole depth ts rest s z e found = record {
  says = json.number s;
  parses = ap (value depth) e ∙ value_is depth _;
  whole = rw (found.parses, found.whole) refl;
}

-- ---- a list and an object

list_whole : (o : Option source.Items) (ds : Elements) → option_and_then whole_elements o ≡ Some ds → option_and_then whole_value (option_map source.array o) ≡ Some (list ds)
list_whole None ds h = absurd (cc)
list_whole (Some found) ds h = rw h refl

object_whole : (o : Option source.Members) (ms : Members) → option_and_then whole_members o ≡ Some ms → option_and_then whole_value (option_map source.object o) ≡ Some (object ms)
object_whole None ms h = absurd (cc)
object_whole (Some found) ms h = rw h refl

pub said_list : (depth : ℕ) (ts rest r : Tokens) (ds : List JsonValue) → ts ≡ Token.begin_array ∷ rest → 0 < depth → SaysElements (items (value (depth - 1)) (length rest) rest) ds r
    → Says (value depth ts) (list (elements_of ds)) r
said_list depth ts rest r ds e some found = record {
  says = json.array found.says;
  parses = ap (value depth) e ∙ value-begin_array depth rest some ∙ ap (parse_map json.array) found.parses;
  whole = list_whole (of_items found.says) (elements_of ds) found.whole;
}

pub said_object : (depth : ℕ) (ts rest r : Tokens) (ms : List (List ℕ × JsonValue)) → ts ≡ Token.begin_object ∷ rest → 0 < depth → SaysMembers (members (value (depth - 1)) (length rest) rest) ms r
    → Says (value depth ts) (object (members_of ms)) r
said_object depth ts rest r ms e some found = record {
  says = json.object found.says;
  parses = ap (value depth) e ∙ value-begin_object depth rest some ∙ ap (parse_map json.object) found.parses;
  whole = object_whole (of_members found.says source.no_members) (members_of ms) found.whole;
}

-- ---- no value

pub bad_end : (depth : ℕ) (ts : Tokens) → ts ≡ [] → value depth ts ≡ None
bad_end depth ts e = ap (value depth) e ∙ value_is depth []

pub bad_list_level : (depth : ℕ) (ts rest : Tokens) → ts ≡ Token.begin_array ∷ rest → depth ≡ 0 → value depth ts ≡ None
unfolding value
bad_list_level depth ts rest e none = ap₂ value none e

pub bad_object_level : (depth : ℕ) (ts rest : Tokens) → ts ≡ Token.begin_object ∷ rest → depth ≡ 0 → value depth ts ≡ None
unfolding value
bad_object_level depth ts rest e none = ap₂ value none e

pub bad_list : (depth : ℕ) (ts rest : Tokens) → ts ≡ Token.begin_array ∷ rest → 0 < depth → items (value (depth - 1)) (length rest) rest ≡ None → value depth ts ≡ None
bad_list depth ts rest e some none = ap (value depth) e ∙ value-begin_array depth rest some ∙ ap (parse_map json.array) none

pub bad_object : (depth : ℕ) (ts rest : Tokens) → ts ≡ Token.begin_object ∷ rest → 0 < depth → members (value (depth - 1)) (length rest) rest ≡ None → value depth ts ≡ None
bad_object depth ts rest e some none = ap (value depth) e ∙ value-begin_object depth rest some ∙ ap (parse_map json.object) none

-- ---- a whole text

as_text : (o : Option source.Data) (v : JsonValue) → option_and_then whole_value o ≡ Some v → SaysText o v
as_text None v h = absurd (cc)
as_text (Some d) v h = record { says = d; parses = refl; whole = h }

pub text_said : (bytes : List ℕ) (v : JsonValue) (rest : Tokens) → Says (value 127 (tokens bytes)) v rest → rest ≡ [] → SaysText (read bytes) v
text_said bytes v rest found over = rw (found.parses, over) (as_text _ v found.whole)

pub text_and_more : (bytes : List ℕ) (v : JsonValue) (rest more : Tokens) (t : Token) → Says (value 127 (tokens bytes)) v rest → rest ≡ t ∷ more → read bytes ≡ None
text_and_more bytes v rest more t found behind = rw (found.parses, behind) refl

pub text_bad : (bytes : List ℕ) → value 127 (tokens bytes) ≡ None → read bytes ≡ None
text_bad bytes none = rw none refl

pub ruleset texts = (text_said, text_and_more, text_bad)
