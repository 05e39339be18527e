-- Which kinds of fields the parts of a search ask, and which values a kind takes.
use Rattle.std.specs.Prelude.{Bool, true, false, ◌||◌, Option, Some, None, is_some}
use Rattle.tree_json.specs.Value.{JsonValue}
use Rattle.mapping_body.specs.declared.kind.Kind.{Kind}
use Rattle.mapping_body.specs.declared.kind.Kind.TheVariants.{Text, Keyword, Long, Boolean, Date, Object, Nested, Join}
use Rattle.tree_objects.specs.Values.{convert}
use Rattle.search_form.specs.declared.form.Form.{Form}
use Rattle.search_form.specs.declared.form.Form.TheVariants.{Range, Prefix, TermsBucket, ValueCount, Metric}

abbrev pub is_keyword : Kind → Bool
is_keyword Keyword = true
is_keyword kind = false

-- the kinds whose values have an order: they sort, and make buckets
abbrev pub is_sortable : Kind → Bool
is_sortable Text = false
is_sortable Keyword = true
is_sortable Long = true
is_sortable Boolean = true
is_sortable Date = true
is_sortable Object = false
is_sortable Nested = false
is_sortable Join = false

-- the kinds that metrics measure
abbrev pub is_measured : Kind → Bool
is_measured Text = false
is_measured Keyword = false
is_measured Long = true
is_measured Boolean = false
is_measured Date = true
is_measured Object = false
is_measured Nested = false
is_measured Join = false

-- the kinds with values
abbrev pub is_valued : Kind → Bool
is_valued Text = true
is_valued kind = is_sortable kind

-- the kinds of fields that a leaf, a bucket or a metric may ask
abbrev pub may_ask : Form → Kind → Bool
may_ask Range kind = is_measured kind || is_keyword kind
may_ask Prefix Text = true
may_ask Prefix kind = is_keyword kind
may_ask TermsBucket kind = is_sortable kind
may_ask ValueCount kind = is_sortable kind
may_ask Metric kind = is_measured kind
may_ask form kind = is_valued kind

-- nothing that is asked is taken by each kind
abbrev pub is_taken : Kind → Option JsonValue → Bool
is_taken kind None = true
is_taken kind (Some v) = is_some (convert kind v)
