-- Whether the keys of `search_after` are such as the clauses of the sort give.
use Rattle.std.specs.Prelude.{Bool, true, false, ◌&&◌, not, if◌then◌else◌, Option, Some, None, is_none}
use Rattle.tree_json.specs.Value.{JsonValue, null, bool, whole, text, list, object, Elements, no_elements, element}
use Rattle.mapping_body.specs.declared.kind.Kind.{Kind}
use Rattle.mapping.specs.Mapping.{Mapping}
use Rattle.search_walk.specs.Kinds.{is_keyword}
use Rattle.search_walk.specs.Names.{kind_named}
use Rattle.search_walk.specs.Sorts.{sort_name, is_score, given_missing}

-- a key is a text or a whole number, as `texts` says, or null where that can be
abbrev pub key_is_taken : Bool → Bool → JsonValue → Bool
key_is_taken texts nulls null = nulls
key_is_taken texts nulls (bool b) = false
key_is_taken texts nulls (whole z) = not texts
key_is_taken texts nulls (text s) = texts
key_is_taken texts nulls (list ds) = false
key_is_taken texts nulls (object ms) = false

abbrev pub is_keyword_if : Option Kind → Bool
is_keyword_if None = false
is_keyword_if (Some kind) = is_keyword kind

-- the keys of a clause are texts on a keyword, else whole numbers
abbrev pub has_texts : Mapping → JsonValue → Bool
has_texts m clause = if is_score (sort_name clause) then false else is_keyword_if (kind_named m (sort_name clause))

-- a key is null where no value was there, unless one was given for that
abbrev pub has_nulls : JsonValue → Bool
has_nulls clause = if is_score (sort_name clause) then false else is_none (given_missing clause)

abbrev pub clause_takes : Mapping → JsonValue → JsonValue → Bool
clause_takes m clause key = key_is_taken (has_texts m clause) (has_nulls clause) key

-- a key for each clause; the last, of the sequence number, is behind them
abbrev pub clauses_take : Mapping → Elements → Elements → Bool
clauses_take m no_elements keys = true
clauses_take m (element c cs) no_elements = true
clauses_take m (element c cs) (element k ks) = clause_takes m c k && clauses_take m cs ks

-- without a clause the score is the key
abbrev pub score_takes : Elements → Bool
score_takes no_elements = true
score_takes (element k ks) = key_is_taken false false k

abbrev pub list_takes : Mapping → Elements → Elements → Bool
list_takes m no_elements keys = score_takes keys
list_takes m (element c cs) keys = clauses_take m (element c cs) keys

abbrev pub sort_takes : Mapping → Option JsonValue → Elements → Bool
sort_takes m None keys = score_takes keys
sort_takes m (Some (list cs)) keys = list_takes m cs keys
sort_takes m (Some clause) keys = clauses_take m (element clause no_elements) keys

abbrev pub keys_are_taken : Mapping → Option JsonValue → Option JsonValue → Bool
keys_are_taken m sort (Some (list keys)) = sort_takes m sort keys
keys_are_taken m sort after = true
