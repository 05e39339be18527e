-- The forms inside which something is judged, at some depth. The walk passes over what stands inside the others; no
-- definition cites it.
use Rattle.std.specs.Prelude.{Bool, true, false}
use Rattle.search_form.specs.declared.form.Form.{Form}
use Rattle.search_form.specs.declared.form.Form.TheVariants.{Body, Query, BoolQuery, ConstantScore, DisMax, Nested, ToChild, HasChild, HasParent, SortClause, FieldSort, SortNested, InnerHits, Buckets, Bucket, Queries, QueryList, Sort}

abbrev pub has_parts : Form → Bool
has_parts Body = true
has_parts Query = true
has_parts BoolQuery = true
has_parts ConstantScore = true
has_parts DisMax = true
has_parts Nested = true
has_parts ToChild = true
has_parts HasChild = true
has_parts HasParent = true
has_parts SortClause = true
has_parts FieldSort = true
has_parts SortNested = true
has_parts InnerHits = true
has_parts Buckets = true
has_parts Bucket = true
has_parts Queries = true
has_parts QueryList = true
has_parts Sort = true
has_parts form = false
