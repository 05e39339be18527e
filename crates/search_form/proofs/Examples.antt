-- The form at work on small bodies: what it takes, and what it refuses, one for each rule that is easy to get wrong.
use Rattle.std.proofs.Common.{◌≡◌, ℕ, pos, negsuc, List as Seq, [], ◌∷◌, codes, refl, true, false}
use Rattle.tree_json.specs.Value.{JsonValue, null, whole, text, list, object, elements_of, members_of}
use Rattle.search_form.specs.Form.{is_search_body}

abbrev object_of : Seq (Seq ℕ × JsonValue) → JsonValue
object_of ms = object (members_of ms)

abbrev one : Seq ℕ → JsonValue → JsonValue
one name v = object_of ((name, v) ∷ [])

abbrev list_of : Seq JsonValue → JsonValue
list_of vs = list (elements_of vs)

abbrev word : Seq ℕ → JsonValue
word s = text s

abbrev number : ℕ → JsonValue
number n = whole (pos n)

abbrev nothing : JsonValue
nothing = object_of []

abbrev all : JsonValue
all = one (codes "match_all") nothing

abbrev asked : JsonValue → JsonValue
asked q = one (codes "query") q

empty_body_is_taken : is_search_body nothing ≡ true
unfolding is_search_body
empty_body_is_taken = refl

-- an unknown name is refused wherever it stands
unknown_name_is_refused : is_search_body (one (codes "fields") nothing) ≡ false
unfolding is_search_body
unknown_name_is_refused = refl

-- null stands for no value but as a bound
null_is_no_value : is_search_body (asked (one (codes "term") (one (codes "a") null))) ≡ false
unfolding is_search_body
null_is_no_value = refl

null_is_no_bound : is_search_body (asked (one (codes "range") (one (codes "a") (one (codes "lte") null)))) ≡ true
unfolding is_search_body
null_is_no_bound = refl

-- `gt` with `gte`, also where one of them is null
two_lower_bounds_are_refused : is_search_body (asked (one (codes "range") (one (codes "a") (object_of ((codes "gt", null) ∷ (codes "gte", number 1) ∷ []))))) ≡ false
unfolding is_search_body
two_lower_bounds_are_refused = refl

boost_of_0_is_refused : is_search_body (asked (one (codes "match_all") (one (codes "boost") (number 0)))) ≡ false
unfolding is_search_body
boost_of_0_is_refused = refl

boost_of_10000_is_taken : is_search_body (asked (one (codes "match_all") (one (codes "boost") (number 10_000)))) ≡ true
unfolding is_search_body
boost_of_10000_is_taken = refl

-- `terms` asks one field, beside its boost
terms_ask_one_field : is_search_body (asked (one (codes "terms") (object_of ((codes "a", list_of []) ∷ (codes "b", list_of []) ∷ [])))) ≡ false
unfolding is_search_body
terms_ask_one_field = refl

-- one query may stand for a list of queries in `bool`, and not in `dis_max`
one_query_for_a_list : is_search_body (asked (one (codes "bool") (one (codes "must") all))) ≡ true
unfolding is_search_body
one_query_for_a_list = refl

dis_max_wants_a_list : is_search_body (asked (one (codes "dis_max") (one (codes "queries") all))) ≡ false
unfolding is_search_body
dis_max_wants_a_list = refl

-- ---- where inner hits may stand

abbrev inner : JsonValue
inner = object_of ((codes "inner_hits", nothing) ∷ (codes "path", word (codes "p")) ∷ (codes "query", all) ∷ [])

abbrev child : JsonValue → JsonValue
child q = one (codes "has_child") (object_of ((codes "query", q) ∷ (codes "type", word (codes "c")) ∷ []))

abbrev owner : JsonValue → JsonValue
owner q = one (codes "has_child") (object_of ((codes "inner_hits", nothing) ∷ (codes "query", q) ∷ (codes "type", word (codes "c")) ∷ []))

inner_hits_inside_their_owner : is_search_body (asked (owner (one (codes "nested") inner))) ≡ true
unfolding is_search_body
inner_hits_inside_their_owner = refl

inner_hits_inside_another_join : is_search_body (asked (child (owner all))) ≡ false
unfolding is_search_body
inner_hits_inside_another_join = refl

inner_hits_inside_to_child : is_search_body (asked (one (codes "to_child") (object_of ((codes "path", word []) ∷ (codes "query", one (codes "nested") inner) ∷ [])))) ≡ false
unfolding is_search_body
inner_hits_inside_to_child = refl

-- ---- keys after which a page starts

-- one key for the score, by which an empty sort sorts, and a last one
after_an_empty_sort : is_search_body (object_of ((codes "search_after", list_of (null ∷ whole (negsuc 0) ∷ [])) ∷ (codes "sort", list_of []) ∷ [])) ≡ true
unfolding is_search_body
after_an_empty_sort = refl

last_key_is_whole : is_search_body (one (codes "search_after") (list_of (number 1 ∷ null ∷ []))) ≡ false
unfolding is_search_body
last_key_is_whole = refl

after_stands_without_from : is_search_body (object_of ((codes "from", number 1) ∷ (codes "search_after", list_of (number 1 ∷ number 1 ∷ [])) ∷ [])) ≡ false
unfolding is_search_body
after_stands_without_from = refl

-- ---- buckets

abbrev metric : JsonValue
metric = one (codes "field") (word (codes "a"))

abbrev buckets : Seq ℕ → JsonValue → JsonValue
buckets name definition = one (codes "aggs") (one name definition)

key_is_no_bucket : is_search_body (buckets (codes "key") (one (codes "min") metric)) ≡ false
unfolding is_search_body
key_is_no_bucket = refl

metrics_have_no_buckets : is_search_body (buckets (codes "a") (object_of ((codes "aggs", nothing) ∷ (codes "min", metric) ∷ []))) ≡ false
unfolding is_search_body
metrics_have_no_buckets = refl

buckets_inside_children : is_search_body (buckets (codes "a") (object_of ((codes "aggs", nothing) ∷ (codes "children", one (codes "type") (word (codes "c"))) ∷ []))) ≡ true
unfolding is_search_body
buckets_inside_children = refl

a_bucket_has_one_form : is_search_body (buckets (codes "a") (object_of ((codes "max", metric) ∷ (codes "min", metric) ∷ []))) ≡ false
unfolding is_search_body
a_bucket_has_one_form = refl
