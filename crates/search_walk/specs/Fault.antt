-- What a part of a search body is refused for by itself, first of all that it is refused for.
use Rattle.std.specs.Prelude.{ℕ, ◌==◌, Bool, true, false, ◌&&◌, ◌||◌, not, if◌then◌else◌, List, [], ◌∷◌, codes, Option, Some, None}
use Rattle.std.specs.Option.{option_or}
use Rattle.tree_json.specs.Value.{JsonValue, null, list, object, Elements, no_elements, element, Members, member_of}
use Rattle.mapping_body.specs.declared.kind.Kind.{Kind}
use Rattle.mapping.specs.Mapping.{Mapping, scope_named, is_above}
use Rattle.search_form.specs.declared.form.Form.{Form}
use Rattle.search_form.specs.declared.form.Form.TheVariants.{Term, Terms, Range, Prefix, Match, MatchPhrase, Nested, ToChild, HasChild, HasParent, ParentId, SortClause, SortNested, SearchAfter, Bucket, NestedBucket, ReverseNestedBucket, TermsBucket, Metric, ValueCount, JoinBucket}
use Rattle.search_form.specs.Form.{chosen}
use Rattle.search_walk.specs.declared.refusal.SearchRefusal.{SearchRefusal}
use Rattle.search_walk.specs.declared.refusal.SearchRefusal.TheVariants.{UnknownPath, PathOutOfScope, UnknownRelation, BadValue, SortFieldUnmapped, BadSort}
use Rattle.search_walk.specs.After.{keys_are_taken}
use Rattle.search_walk.specs.Kinds.{is_keyword, is_sortable, may_ask, is_taken}
use Rattle.search_walk.specs.Names.{text_of, text_under, flag_under, nested_under, path_or_root, kind_named, child_under, parent_under}
use Rattle.search_walk.specs.Node.{Node}
use Rattle.search_walk.specs.Sorts.{sort_name, sort_part, is_score, given_missing, is_summing}

abbrev pub bad_value_unless : Bool → Option SearchRefusal
bad_value_unless fine = if fine then None else Some BadValue

-- ---- leaves

-- what is asked under a field: the value itself, or what an object has under a name
abbrev pub asked_value : List ℕ → JsonValue → Option JsonValue
asked_value name (object ms) = member_of ms name
asked_value name v = Some v

abbrev pub all_taken : Kind → Elements → Bool
all_taken kind no_elements = true
all_taken kind (element d ds) = is_taken kind (Some d) && all_taken kind ds

abbrev pub elements_taken : Kind → JsonValue → Bool
elements_taken kind (list ds) = all_taken kind ds
elements_taken kind v = true

-- null is no bound
abbrev pub bound_taken : Kind → Option JsonValue → Bool
bound_taken kind (Some null) = true
bound_taken kind bound = is_taken kind bound

abbrev pub bounds_taken : Kind → JsonValue → Bool
bounds_taken kind (object ms) =
    bound_taken kind (member_of ms (codes "gt")) && (bound_taken kind (member_of ms (codes "gte"))
    && (bound_taken kind (member_of ms (codes "lt")) && bound_taken kind (member_of ms (codes "lte"))))
bounds_taken kind v = true

-- whether each value that a leaf asks is one of its field's kind
abbrev pub asked_taken : Kind → Form → JsonValue → Bool
asked_taken kind Term v = is_taken kind (asked_value (codes "value") v)
asked_taken kind Match v = is_taken kind (asked_value (codes "query") v)
asked_taken kind MatchPhrase v = is_taken kind (asked_value (codes "query") v)
asked_taken kind Terms v = elements_taken kind v
asked_taken kind Range v = bounds_taken kind v
asked_taken kind form v = true

-- on an unmapped field nothing is checked
abbrev pub fits_field : Option Kind → Form → JsonValue → Bool
fits_field None form v = true
fits_field (Some kind) form v = may_ask form kind && asked_taken kind form v

abbrev pub leaf_fault : Mapping → Form → Option (List ℕ × Form × JsonValue) → Option SearchRefusal
leaf_fault m form None = None
leaf_fault m form (Some c) = bad_value_unless (fits_field (kind_named m c.0) form c.2)

-- ---- paths and relations

-- a path down is that of a nested scope strictly below the one at hand; an unknown one may be ignored
abbrev pub below_fault : Mapping → ℕ → Bool → Option ℕ → Option SearchRefusal
below_fault m scope ignored None = if ignored then None else Some UnknownPath
below_fault m scope ignored (Some below) = if is_above m scope below then None else Some PathOutOfScope

-- a path up is that of a scope strictly above the one at hand
abbrev pub above_fault : Mapping → ℕ → Option ℕ → Option SearchRefusal
above_fault m scope None = Some UnknownPath
above_fault m scope (Some above) = if is_above m above scope then None else Some PathOutOfScope

abbrev pub relation_fault : Bool → Option ℕ → Option SearchRefusal
relation_fault ignored None = if ignored then None else Some UnknownRelation
relation_fault ignored (Some relation) = None

abbrev pub ignores : Members → Bool
ignores ms = flag_under ms (codes "ignore_unmapped")

-- ---- buckets

-- the field of a bucket or a metric is of a kind that it may ask, or unmapped
abbrev pub may_ask_if : Option Kind → Form → Bool
may_ask_if None form = true
may_ask_if (Some kind) form = may_ask form kind

abbrev pub field_fault : Mapping → Form → Members → Option SearchRefusal
field_fault m form ms = bad_value_unless (may_ask_if (kind_named m (text_under ms (codes "field"))) form)

-- trees joined to trees are found from roots alone
abbrev pub at_root : ℕ → Option SearchRefusal
at_root scope = if scope == 0 then None else Some PathOutOfScope

abbrev pub join_fault : Mapping → ℕ → Members → Option SearchRefusal
join_fault m scope ms = option_or (relation_fault false (child_under m ms)) (at_root scope)

abbrev pub object_in_bucket : Mapping → ℕ → Form → Members → Option SearchRefusal
object_in_bucket m scope NestedBucket ms = below_fault m scope false (nested_under m ms)
object_in_bucket m scope ReverseNestedBucket ms = above_fault m scope (path_or_root m (member_of ms (codes "path")))
object_in_bucket m scope TermsBucket ms = field_fault m TermsBucket ms
object_in_bucket m scope Metric ms = field_fault m Metric ms
object_in_bucket m scope ValueCount ms = field_fault m ValueCount ms
object_in_bucket m scope JoinBucket ms = join_fault m scope ms
object_in_bucket m scope form ms = None

abbrev pub bucket_fault_in : Mapping → ℕ → Form → JsonValue → Option SearchRefusal
bucket_fault_in m scope form (object ms) = object_in_bucket m scope form ms
bucket_fault_in m scope form v = None

abbrev pub bucket_fault : Mapping → ℕ → Option (List ℕ × Form × JsonValue) → Option SearchRefusal
bucket_fault m scope None = None
bucket_fault m scope (Some c) = bucket_fault_in m scope c.1 c.2

-- ---- sorts

-- a keyword isn't added up, and what stands in for a missing value is one of the field's kind
abbrev pub mode_fault : Kind → JsonValue → Option SearchRefusal
mode_fault kind clause =
    if (is_keyword kind && is_summing (text_of (sort_part clause (codes "mode")))) || not (is_taken kind (given_missing clause))
    then Some BadSort else None

abbrev pub field_sort_fault : Option Kind → JsonValue → Option SearchRefusal
field_sort_fault None clause = Some SortFieldUnmapped
field_sort_fault (Some kind) clause = if is_sortable kind then mode_fault kind clause else Some SortFieldUnmapped

abbrev pub sort_fault : Mapping → JsonValue → Option SearchRefusal
sort_fault m clause =
    if is_score (sort_name clause) then None else field_sort_fault (kind_named m (sort_name clause)) clause

-- ---- all parts

abbrev pub object_fault : Mapping → ℕ → Form → Members → Option SearchRefusal
object_fault m scope Term ms = leaf_fault m Term (chosen Term ms)
object_fault m scope Terms ms = leaf_fault m Terms (chosen Terms ms)
object_fault m scope Range ms = leaf_fault m Range (chosen Range ms)
object_fault m scope Prefix ms = leaf_fault m Prefix (chosen Prefix ms)
object_fault m scope Match ms = leaf_fault m Match (chosen Match ms)
object_fault m scope MatchPhrase ms = leaf_fault m MatchPhrase (chosen MatchPhrase ms)
object_fault m scope Nested ms = below_fault m scope (ignores ms) (nested_under m ms)
object_fault m scope ToChild ms = above_fault m scope (scope_named m (text_under ms (codes "path")))
object_fault m scope HasChild ms = relation_fault (ignores ms) (child_under m ms)
object_fault m scope HasParent ms = relation_fault (ignores ms) (parent_under m ms)
object_fault m scope ParentId ms = relation_fault (ignores ms) (child_under m ms)
object_fault m scope SortNested ms = below_fault m scope false (nested_under m ms)
object_fault m scope SearchAfter ms = bad_value_unless (keys_are_taken m (member_of ms (codes "sort")) (member_of ms (codes "search_after")))
object_fault m scope Bucket ms = bucket_fault m scope (chosen Bucket ms)
object_fault m scope form ms = None

abbrev pub fault_at : Mapping → ℕ → Form → JsonValue → Option SearchRefusal
fault_at m scope SortClause v = sort_fault m v
fault_at m scope form (object ms) = object_fault m scope form ms
fault_at m scope form v = None

-- inside an ignored clause nothing is looked up
abbrev pub fault_in : Mapping → Option ℕ → Form → JsonValue → Option SearchRefusal
fault_in m None form v = None
fault_in m (Some scope) form v = fault_at m scope form v

abbrev pub fault_of : Mapping → Node → Option SearchRefusal
fault_of m node = fault_in m node.scope node.form node.value

-- the first of the walk
abbrev pub first_fault : Mapping → List Node → Option SearchRefusal
first_fault m [] = None
first_fault m (node ∷ nodes) = option_or (fault_of m node) (first_fault m nodes)
