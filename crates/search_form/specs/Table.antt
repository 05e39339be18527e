-- The forms of a search body as tables, after the request bodies of the Elasticsearch reference (query DSL, sort search
-- results, inner hits, aggregations): which names an object has, what stands under each, and which single values there are.
use Rattle.std.specs.Prelude.{ℕ, ℤ, pos, Bool, true, false, ◌&&◌, if◌then◌else◌, nat_le, int_le, List, [], ◌∷◌, length, codes, Option, Some, None}
use Rattle.std.specs.List.{list_any}
use Rattle.std.specs.Str.{bytes_eq}
use Rattle.tree_json.specs.Value.{JsonValue, null, bool, whole, text}
use Rattle.search_form.specs.declared.form.Form.{Form}
use Rattle.search_form.specs.declared.form.Form.TheVariants.{Body, Pit, Query, MatchAll, MatchNone, Term, TermField, Terms, Range, RangeField, Exists, Prefix, PrefixField, Match, MatchField, MatchPhrase, PhraseField, Ids, BoolQuery, ConstantScore, DisMax, Nested, ToChild, HasChild, HasParent, ParentId, SortClause, ScoreSort, FieldSort, SortNested, InnerHits, Buckets, Bucket, NestedBucket, ReverseNestedBucket, TermsBucket, BucketOrder, Metric, ValueCount, JoinBucket, Queries, QueryList, ValueList, TextList, Sort, SearchAfter, Flag, True, Whole, Positive, Boost, BucketCount, Value, Bound, Text, Name, Direction, ScoreMode, SortMode, Operator, Any, Unknown}
use Rattle.search_form.specs.declared.form.Presence.{Presence}
use Rattle.search_form.specs.declared.form.Presence.TheVariants.{Required, Optional, Choice}

-- ---- objects

-- The names that an object of a form may have, and None where a form isn't one of an object. Whether the name has to be
-- there stands beside it: `Required` says so, `Optional` doesn't, and of the names that are a `Choice` exactly one is there.
abbrev pub lines_of : Form → Option (List (List ℕ × Presence × Form))
lines_of Query = Some (
    (codes "match_all", Choice, MatchAll)
    ∷ (codes "match_none", Choice, MatchNone)
    ∷ (codes "term", Choice, Term)
    ∷ (codes "terms", Choice, Terms)
    ∷ (codes "range", Choice, Range)
    ∷ (codes "exists", Choice, Exists)
    ∷ (codes "prefix", Choice, Prefix)
    ∷ (codes "match", Choice, Match)
    ∷ (codes "match_phrase", Choice, MatchPhrase)
    ∷ (codes "ids", Choice, Ids)
    ∷ (codes "bool", Choice, BoolQuery)
    ∷ (codes "constant_score", Choice, ConstantScore)
    ∷ (codes "dis_max", Choice, DisMax)
    ∷ (codes "nested", Choice, Nested)
    ∷ (codes "to_child", Choice, ToChild)
    ∷ (codes "has_child", Choice, HasChild)
    ∷ (codes "has_parent", Choice, HasParent)
    ∷ (codes "parent_id", Choice, ParentId) ∷ [])
lines_of MatchAll = Some ((codes "boost", Optional, Boost) ∷ [])
lines_of MatchNone = Some []
lines_of Term = Some []
lines_of TermField = Some ((codes "value", Required, Value) ∷ (codes "boost", Optional, Boost) ∷ [])
lines_of Terms = Some ((codes "boost", Optional, Boost) ∷ [])
lines_of Range = Some []
lines_of RangeField = Some (
    (codes "gt", Optional, Bound)
    ∷ (codes "gte", Optional, Bound)
    ∷ (codes "lt", Optional, Bound)
    ∷ (codes "lte", Optional, Bound)
    ∷ (codes "boost", Optional, Boost) ∷ [])
lines_of Exists = Some ((codes "field", Required, Text) ∷ (codes "boost", Optional, Boost) ∷ [])
lines_of Prefix = Some []
lines_of PrefixField = Some ((codes "value", Required, Text) ∷ (codes "boost", Optional, Boost) ∷ [])
lines_of Match = Some []
lines_of MatchField = Some (
    (codes "query", Required, Value)
    ∷ (codes "operator", Optional, Operator)
    ∷ (codes "boost", Optional, Boost) ∷ [])
lines_of MatchPhrase = Some []
lines_of PhraseField = Some ((codes "query", Required, Value) ∷ (codes "boost", Optional, Boost) ∷ [])
lines_of Ids = Some ((codes "values", Required, TextList) ∷ (codes "boost", Optional, Boost) ∷ [])
lines_of BoolQuery = Some (
    (codes "must", Optional, Queries)
    ∷ (codes "filter", Optional, Queries)
    ∷ (codes "should", Optional, Queries)
    ∷ (codes "must_not", Optional, Queries)
    ∷ (codes "minimum_should_match", Optional, Whole) ∷ [])
lines_of ConstantScore = Some ((codes "filter", Required, Query) ∷ (codes "boost", Optional, Boost) ∷ [])
lines_of DisMax = Some ((codes "queries", Required, QueryList) ∷ [])
lines_of Nested = Some (
    (codes "path", Required, Text)
    ∷ (codes "query", Required, Query)
    ∷ (codes "score_mode", Optional, ScoreMode)
    ∷ (codes "ignore_unmapped", Optional, Flag)
    ∷ (codes "inner_hits", Optional, InnerHits) ∷ [])
lines_of ToChild = Some ((codes "path", Required, Text) ∷ (codes "query", Required, Query) ∷ [])
lines_of HasChild = Some (
    (codes "type", Required, Text)
    ∷ (codes "query", Required, Query)
    ∷ (codes "score_mode", Optional, ScoreMode)
    ∷ (codes "min_children", Optional, Positive)
    ∷ (codes "max_children", Optional, Positive)
    ∷ (codes "ignore_unmapped", Optional, Flag)
    ∷ (codes "inner_hits", Optional, InnerHits) ∷ [])
lines_of HasParent = Some (
    (codes "parent_type", Required, Text)
    ∷ (codes "query", Required, Query)
    ∷ (codes "score", Optional, Flag)
    ∷ (codes "boost", Optional, Boost)
    ∷ (codes "ignore_unmapped", Optional, Flag)
    ∷ (codes "inner_hits", Optional, InnerHits) ∷ [])
lines_of ParentId = Some (
    (codes "type", Required, Text)
    ∷ (codes "id", Required, Text)
    ∷ (codes "ignore_unmapped", Optional, Flag)
    ∷ (codes "boost", Optional, Boost) ∷ [])
lines_of Body = Some (
    (codes "query", Optional, Query)
    ∷ (codes "from", Optional, Whole)
    ∷ (codes "size", Optional, Whole)
    ∷ (codes "sort", Optional, Sort)
    ∷ (codes "search_after", Optional, SearchAfter)
    ∷ (codes "aggs", Optional, Buckets)
    ∷ (codes "aggregations", Optional, Buckets)
    ∷ (codes "pit", Optional, Pit)
    ∷ (codes "_source", Optional, Flag)
    ∷ (codes "track_total_hits", Optional, True) ∷ [])
lines_of Pit = Some ((codes "id", Required, Whole) ∷ [])
lines_of SortClause = Some ((codes "_score", Choice, ScoreSort) ∷ [])
lines_of ScoreSort = Some ((codes "order", Optional, Direction) ∷ [])
lines_of FieldSort = Some (
    (codes "order", Optional, Direction)
    ∷ (codes "mode", Optional, SortMode)
    ∷ (codes "missing", Optional, Value)
    ∷ (codes "nested", Optional, SortNested) ∷ [])
lines_of SortNested = Some (
    (codes "path", Required, Text)
    ∷ (codes "filter", Optional, Query)
    ∷ (codes "nested", Optional, SortNested) ∷ [])
lines_of InnerHits = Some (
    (codes "name", Optional, Name)
    ∷ (codes "from", Optional, Whole)
    ∷ (codes "size", Optional, Whole)
    ∷ (codes "sort", Optional, Sort)
    ∷ (codes "_source", Optional, Flag) ∷ [])
lines_of Buckets = Some ((codes "doc_count", Optional, Unknown) ∷ (codes "key", Optional, Unknown) ∷ [])
lines_of Bucket = Some (
    (codes "filter", Choice, Query)
    ∷ (codes "nested", Choice, NestedBucket)
    ∷ (codes "reverse_nested", Choice, ReverseNestedBucket)
    ∷ (codes "terms", Choice, TermsBucket)
    ∷ (codes "min", Choice, Metric)
    ∷ (codes "max", Choice, Metric)
    ∷ (codes "sum", Choice, Metric)
    ∷ (codes "value_count", Choice, ValueCount)
    ∷ (codes "children", Choice, JoinBucket)
    ∷ (codes "parent", Choice, JoinBucket)
    ∷ (codes "aggs", Optional, Buckets)
    ∷ (codes "aggregations", Optional, Buckets) ∷ [])
lines_of NestedBucket = Some ((codes "path", Required, Text) ∷ [])
lines_of ReverseNestedBucket = Some ((codes "path", Optional, Text) ∷ [])
lines_of TermsBucket = Some (
    (codes "field", Required, Text)
    ∷ (codes "size", Optional, BucketCount)
    ∷ (codes "order", Optional, BucketOrder) ∷ [])
lines_of BucketOrder = Some ((codes "_count", Choice, Direction) ∷ (codes "_key", Choice, Direction) ∷ [])
lines_of Metric = Some ((codes "field", Required, Text) ∷ [])
lines_of ValueCount = Some ((codes "field", Required, Text) ∷ [])
lines_of JoinBucket = Some ((codes "type", Required, Text) ∷ [])
lines_of Any = Some []
lines_of form = None

-- a name of 1 to 255 bytes
abbrev pub longest_name : ℕ
longest_name = 255

abbrev pub is_name : List ℕ → Bool
is_name name = nat_le 1 (length name) && nat_le (length name) longest_name

-- What stands under every other name: fields, under their paths, and buckets, under names of their own. Nothing has the
-- form `Unknown`, so no other name is taken.
abbrev pub other_of : Form → List ℕ → Presence × Form
other_of Term name = (Choice, TermField)
other_of Terms name = (Choice, ValueList)
other_of Range name = (Choice, RangeField)
other_of Prefix name = (Choice, PrefixField)
other_of Match name = (Choice, MatchField)
other_of MatchPhrase name = (Choice, PhraseField)
other_of SortClause name = (Choice, FieldSort)
other_of Buckets name = (Optional, if is_name name then Bucket else Unknown)
other_of Any name = (Optional, Any)
other_of form name = (Optional, Unknown)

-- the forms whose objects are a choice of one name
abbrev pub is_choice_of_one : Form → Bool
is_choice_of_one Query = true
is_choice_of_one Term = true
is_choice_of_one Terms = true
is_choice_of_one Range = true
is_choice_of_one Prefix = true
is_choice_of_one Match = true
is_choice_of_one MatchPhrase = true
is_choice_of_one SortClause = true
is_choice_of_one Bucket = true
is_choice_of_one BucketOrder = true
is_choice_of_one form = false

-- pairs of names of which one object has at most one; metrics have no buckets inside
abbrev pub apart_in : Form → List (List ℕ × List ℕ)
apart_in RangeField = (codes "gt", codes "gte") ∷ (codes "lt", codes "lte") ∷ []
apart_in Body = (codes "aggs", codes "aggregations") ∷ []
apart_in Bucket =
    (codes "aggs", codes "aggregations")
    ∷ (codes "aggs", codes "min")
    ∷ (codes "aggs", codes "max")
    ∷ (codes "aggs", codes "sum")
    ∷ (codes "aggs", codes "value_count")
    ∷ (codes "aggregations", codes "min")
    ∷ (codes "aggregations", codes "max")
    ∷ (codes "aggregations", codes "sum")
    ∷ (codes "aggregations", codes "value_count") ∷ []
apart_in form = []

-- ---- lists

-- what the elements of a list of a form look like
abbrev pub element_of : Form → Form
element_of Queries = Query
element_of QueryList = Query
element_of ValueList = Value
element_of TextList = Text
element_of Sort = SortClause
element_of SearchAfter = Any
element_of Any = Any
element_of form = Unknown

-- the form of what may stand in place of the list that has it alone; other forms are their own
abbrev pub single_of : Form → Form
single_of Queries = Query
single_of Sort = SortClause
single_of form = form

-- ---- single values

abbrev pub is_flag : JsonValue → Bool
is_flag (bool b) = true
is_flag v = false

abbrev pub is_true : JsonValue → Bool
is_true (bool b) = b
is_true v = false

abbrev pub is_text : JsonValue → Bool
is_text (text s) = true
is_text v = false

abbrev pub is_whole : JsonValue → Bool
is_whole (whole z) = true
is_whole v = false

-- a whole number from the least on
abbrev pub is_from : ℤ → JsonValue → Bool
is_from least (whole z) = int_le least z
is_from least v = false

-- a whole number from the least to the most
abbrev pub is_between : ℤ → ℤ → JsonValue → Bool
is_between least most (whole z) = int_le least z && int_le z most
is_between least most v = false

-- a value that is asked for: a text, a whole number or a boolean
abbrev pub is_value : JsonValue → Bool
is_value (bool b) = true
is_value (whole z) = true
is_value (text s) = true
is_value v = false

-- null is no bound
abbrev pub is_bound : JsonValue → Bool
is_bound null = true
is_bound v = is_value v

abbrev pub is_named : JsonValue → Bool
is_named (text s) = is_name s
is_named v = false

abbrev pub is_word : List (List ℕ) → JsonValue → Bool
is_word words (text s) = list_any (bytes_eq s) words
is_word words v = false

abbrev pub directions : List (List ℕ)
directions = codes "asc" ∷ codes "desc" ∷ []

abbrev pub score_modes : List (List ℕ)
score_modes = codes "avg" ∷ codes "max" ∷ codes "min" ∷ codes "none" ∷ codes "sum" ∷ []

abbrev pub sort_modes : List (List ℕ)
sort_modes = codes "min" ∷ codes "max" ∷ codes "sum" ∷ codes "avg" ∷ codes "median" ∷ []

abbrev pub operators : List (List ℕ)
operators = codes "or" ∷ codes "and" ∷ []

-- Null, a boolean, a whole number or a text where a form wants it, or takes it in place of an object: the value asked
-- for under a field, a sort's field, and the order of a sort.
abbrev pub takes : Form → JsonValue → Bool
takes Flag v = is_flag v
takes True v = is_true v
takes Whole v = is_from (pos 0) v
takes Positive v = is_from (pos 1) v
takes Boost v = is_between (pos 1) (pos 10_000) v
takes BucketCount v = is_between (pos 1) (pos 10_000) v
takes Value v = is_value v
takes Bound v = is_bound v
takes Text v = is_text v
takes Name v = is_named v
takes Direction v = is_word directions v
takes ScoreMode v = is_word score_modes v
takes SortMode v = is_word sort_modes v
takes Operator v = is_word operators v
takes TermField v = is_value v
takes PrefixField v = is_text v
takes MatchField v = is_value v
takes PhraseField v = is_value v
takes SortClause v = is_text v
takes FieldSort v = is_word directions v
takes ScoreSort v = is_word directions v
takes Any v = true
takes form v = false
