-- The search that a body says under a mapping, of a body that isn't refused.
use Rattle.std.specs.Prelude.{ℕ, ℤ, pos, List, [], ◌∷◌, codes, Option, Some, None}
use Rattle.tree_json.specs.Value.{JsonValue, whole, text, list, object, Elements, no_elements, element, Members, no_members, member_of}
use Rattle.mapping.specs.Mapping.{Mapping}
use Rattle.query_ast.specs.declared.search.SearchBody.{SearchBody}
use Rattle.query_ast.specs.declared.sort.Key.{Key}
use Rattle.query_ast.specs.declared.sort.Key.TheVariants.{Null, Number, Written}
use Rattle.query_ast.specs.declared.sort.KeyRow.{KeyRow}
use Rattle.query_parser.specs.Buckets.{buckets_inside}
use Rattle.query_parser.specs.InnerHits.{inner_of_body}
use Rattle.query_parser.specs.Queries.{clause_under}
use Rattle.query_parser.specs.Readings.{natural_under, number_under, unless_false}
use Rattle.query_parser.specs.Sorts.{sorts_under}

-- ---- `search_after`: the keys of the clauses, and the sequence number behind them

abbrev pub key_of : JsonValue → Key
key_of (whole z) = Number z
key_of (text s) = Written s
key_of v = Null

abbrev pub number_of : JsonValue → ℤ
number_of (whole z) = z
number_of v = pos 0

abbrev pub keys_in : Elements → List Key
keys_in no_elements = []
keys_in (element d ds) = key_of d ∷ keys_in ds

-- all keys but the last
abbrev pub keys_before : Elements → List Key
keys_before no_elements = []
keys_before (element d no_elements) = []
keys_before (element d (element e ds)) = key_of d ∷ keys_before (element e ds)

abbrev pub last_number : ℤ → Elements → ℤ
last_number number no_elements = number
last_number number (element d ds) = last_number (number_of d) ds

abbrev pub row_of : Elements → KeyRow
row_of ds = record { keys = keys_before ds; place = 0; doc = 0; number = last_number (pos 0) ds }

abbrev pub after_of : Option JsonValue → Option KeyRow
after_of (Some (list ds)) = Some (row_of ds)
after_of v = None

abbrev pub pit_of : Option JsonValue → Option ℕ
pit_of (Some (object ms)) = natural_under ms (codes "id")
pit_of v = None

abbrev pub search_by : Mapping → Members → SearchBody
search_by m body = record {
  query = clause_under m (Some 0) (codes "query") body;
  sort = sorts_under m (Some 0) body;
  after = after_of (member_of body (codes "search_after"));
  from = number_under 10_000 0 body (codes "from");
  size = number_under 10_000 10 body (codes "size");
  aggs = buckets_inside m (Some 0) body;
  inner = inner_of_body m body;
  pit = pit_of (member_of body (codes "pit"));
  source = unless_false (member_of body (codes "_source"));
}

unfoldable pub search_of : Mapping → JsonValue → SearchBody
search_of m (object body) = search_by m body
search_of m v = search_by m no_members
