-- Keys with their counts: of how many documents each is a value.
use Rattle.std.specs.Prelude.{◌≡◌, ℕ, zero, suc, ◌+◌, ◌==◌, ◌<◌, nat_lt, Bool, true, false, ◌&&◌, cond, if◌then◌else◌, List, [], ◌∷◌, map, reverse, length, get_or, count_by, sum_by, ℤ, Option, Some, None, is_some, ◌++◌, ⊤}
use Rattle.std.specs.Ordering.{int_cmp, is_eq}
use Rattle.std.specs.declared.cmp.Ordering.{Ordering}
use Rattle.std.specs.List.{AllByRecursion, list_any}
use Rattle.block_bits.specs.Flags.{is_marked}
use Rattle.doc_values.specs.Values.{values_of}
use Rattle.mapping_body.specs.declared.kind.Kind.{Kind}
use Rattle.query_ast.specs.Compare.{is_less, is_same_value, in_order}
use Rattle.query_ast.specs.Replies.{BucketPart, replies_of, single}
use Rattle.query_ast.specs.Uses.{IsValueOf}
use Rattle.query_eval.specs.Counted.{up_marks, up_total}
use Rattle.segment.specs.Flat.{FlatDocument, bytes_at, flat_of}
use Rattle.postings.specs.Marks.{has_document}
use Rattle.segment.specs.Live.{EntryState}
use Rattle.segment_parts.specs.Lists.{postings_of}
use Rattle.segment_parts.specs.Text.{marked_places}
use Rattle.segment_parts.specs.declared.columns.Columns.{Columns}
use Rattle.tree_objects.specs.declared.field_value.FieldValue.{FieldValue}
use Rattle.tree_objects.specs.declared.field_value.FieldValue.TheVariants.{Number, Written}
use Rattle.view_objects.specs.Values.{values_shown}
use Rattle.bucket_aggs.specs.declared.posted.TermSet.{TermSet}
use Rattle.bucket_aggs.specs.declared.rows.CountRow.{CountRow}

-- ---- documents

-- the documents of an entry that have a score, in order
abbrev pub documents_in : List (Option ℕ) → List ℕ
documents_in scores = marked_places 0 (map is_some scores)

-- what they show, as the columns have it
abbrev pub flats_in : Columns → List (Option ℕ) → List FlatDocument
flats_in columns scores = map (flat_of columns) (documents_in scores)

-- those of all entries
abbrev pub flats_of_view : List EntryState → List (List (Option ℕ)) → List FlatDocument
flats_of_view [] scores = []
flats_of_view (entry ∷ entries) [] = []
flats_of_view (entry ∷ entries) (scores ∷ more) = flats_in entry.columns scores ++ flats_of_view entries more

abbrev pub marked_count : List (Option ℕ) → ℕ
marked_count scores = count_by is_marked (map is_some scores)

-- values but for those that are equal to the one before
module _ {A : Type 0} (same : A → A → Bool) where
  abbrev pub is_again : Option A → A → Bool
  is_again None x = false
  is_again (Some y) x = same y x

  abbrev pub once_after : Option A → List A → List A
  once_after before [] = []
  once_after before (x ∷ xs) = if is_again before x then once_after before xs else x ∷ once_after (Some x) xs

abbrev pub once_by : {A : Type 0} → (A → A → Ordering) → List A → List A
once_by cmp xs = once_after (λ a b. is_eq (cmp a b)) None xs

abbrev pub once : List ℤ → List ℤ
once zs = once_by int_cmp zs

-- ---- counts by ordinal

abbrev pub has_ordinal : ℕ → List ℕ → Bool
has_ordinal ordinal ordinals = list_any (λ own. own == ordinal) ordinals

-- to the count of each ordinal, the first having a number, that of the lists with it is added
pub record Counted (first : ℕ) (lists : List (List ℕ)) (old new : List ℕ) : Type 0 where
  pub long : length new ≡ length old
  pub each : (k : ℕ) → k < length old → get_or new k 0 ≡ get_or old k 0 + count_by (has_ordinal (first + k)) lists

-- whether a posting is of a document of a set
abbrev pub is_posted : List Bool → ℕ × List ℕ → Bool
is_posted flags posting = get_or flags posting.0 false

-- ---- counts by value

abbrev pub is_number : FieldValue → ℤ → Bool
is_number v z = is_same_value v (Number z)

abbrev pub term_key : List (ℕ × List ℕ) → ℕ → FieldValue
term_key terms ordinal = Written (bytes_at terms ordinal)

abbrev pub is_term : List (ℕ × List ℕ) → FieldValue → ℕ → Bool
is_term terms v ordinal = is_same_value v (term_key terms ordinal)

-- the count of a key, if it is the value
abbrev pub count_if : FieldValue → FieldValue → ℕ → ℕ
count_if v key count = if is_same_value v key then count else 0

abbrev pub weight_in : FieldValue → CountRow → ℕ
weight_in v row = count_if v row.key row.count

-- the counts of a value in all rows
abbrev pub weight : FieldValue → List CountRow → ℕ
weight v rows = sum_by (weight_in v) rows

-- the counts of a value among some from a place on, where the first count is that of the term with the ordinal `first`
abbrev pub counts_of : List (ℕ × List ℕ) → ℕ → FieldValue → List ℕ → ℕ → ℕ → ℕ
counts_of terms first v counts at zero = 0
counts_of terms first v counts at (suc some) = count_if v (term_key terms (first + at)) (get_or counts at 0) + counts_of terms first v counts (at + 1) some

abbrev pub shows : Kind → ℕ → FieldValue → FlatDocument → Bool
shows kind f v d = list_any (is_same_value v) (values_shown kind f d)

-- to the counts of each value that of the documents that show it is added
pub record Weighed (kind : Kind) (f : ℕ) (flats : List FlatDocument) (old new : List CountRow) : Type 0 where
  pub each : (v : FieldValue) → weight v new ≡ weight v old + count_by (shows kind f v) flats

abbrev pub count_in : CountRow → ℕ
count_in row = row.count

-- keys of the kind of a field, each of some object
abbrev pub AreKeys : Kind → List CountRow → Type 0
AreKeys kind rows = AllByRecursion (λ (row : CountRow). IsValueOf kind row.key × (0 < row.count)) rows

-- keys strictly ascend
abbrev pub KeysAscend : List CountRow → Type 0
KeysAscend [] = ⊤
KeysAscend (row ∷ rows) = AllByRecursion (λ (later : CountRow). is_less row.key later.key ≡ true) rows × KeysAscend rows

pub record AreCounts (kind : Kind) (f : ℕ) (flats : List FlatDocument) (rows : List CountRow) : Type 0 where
  pub ascend : KeysAscend rows
  pub keys : AreKeys kind rows
  pub counts : (v : FieldValue) → weight v rows ≡ count_by (shows kind f v) flats

-- a count more for the last row, if it has this key, else a new row
abbrev pub added : FieldValue → ℕ → List CountRow → List CountRow
added key count [] = record { key = key; count = count } ∷ []
added key count (row ∷ []) =
    if is_same_value row.key key then record { key = row.key; count = row.count + count } ∷ []
    else row ∷ record { key = key; count = count } ∷ []
added key count (row ∷ next ∷ rows) = row ∷ added key count (next ∷ rows)

-- ---- documents that show a value

-- the scores of the documents that pass a test, the first document having a number
abbrev pub passed_from : (ℕ → Bool) → ℕ → List (Option ℕ) → List (Option ℕ)
passed_from test start [] = []
passed_from test start (score ∷ scores) = cond (test start) score None ∷ passed_from test (start + 1) scores

-- those of an entry, and of all entries, by what the documents show
abbrev pub passed_in : (FlatDocument → Bool) → Columns → List (Option ℕ) → List (Option ℕ)
passed_in test columns scores = passed_from (λ doc. test (flat_of columns doc)) 0 scores

abbrev pub passed_of_view : (FlatDocument → Bool) → List EntryState → List (List (Option ℕ)) → List (List (Option ℕ))
passed_of_view test [] scores = []
passed_of_view test (entry ∷ entries) [] = []
passed_of_view test (entry ∷ entries) (scores ∷ more) = passed_in test entry.columns scores ∷ passed_of_view test entries more

-- of the documents of a set those that show a value
pub record IsShownSet (columns : Columns) (kind : Kind) (f : ℕ) (v : FieldValue) (flags own : List Bool) : Type 0 where
  pub long : length own ≡ length flags
  pub marked : (doc : ℕ) → doc < length flags → get_or own doc false ≡ (get_or flags doc false && shows kind f v (flat_of columns doc))

-- of the documents of a set those that have the term with an ordinal
pub record IsTermSet (columns : Columns) (flags : List Bool) (ordinal : ℕ) (own : List Bool) : Type 0 where
  pub long : length own ≡ length flags
  pub marked : (doc : ℕ) → doc < length flags → get_or own doc false ≡ (get_or flags doc false && has_document doc (get_or (postings_of columns) ordinal []))

abbrev pub IsFoundAt : Columns → List Bool → ℕ → TermSet → Type 0
IsFoundAt columns flags entry it = (it.entry ≡ entry) × IsTermSet columns flags it.ordinal it.documents

-- to what was found some of one entry is added
pub record AreFound (columns : Columns) (flags : List Bool) (entry : ℕ) (old new : List TermSet) : Type 0 where
  pub own : List TermSet
  pub each : AllByRecursion (IsFoundAt columns flags entry) own
  pub is : new ≡ old ++ own

-- what was found of entries
pub record IsKnown (view : List EntryState) (scores : List (List (Option ℕ))) (it : TermSet) : Type 0 where
  pub is : (entry : EntryState) (own : List (Option ℕ)) → it.entry < length view → entry ≡ get_or view it.entry entry → own ≡ get_or scores it.entry own → IsTermSet entry.columns (map is_some own) it.ordinal it.documents

abbrev pub AreKnown : List EntryState → List (List (Option ℕ)) → List TermSet → Type 0
AreKnown view scores found = AllByRecursion (IsKnown view scores) found

-- ---- the documents of a scope that those of a set lead to

-- the documents of a set that pass a test, the first document having a number
abbrev pub cut_from : (ℕ → Bool) → ℕ → List Bool → List Bool
cut_from test start [] = []
cut_from test start (flag ∷ flags) = (flag && test start) ∷ cut_from test (start + 1) flags

-- how many those lead to that have an ordinal, and those that show a value
abbrev pub ordinal_ups : Columns → ℕ → List (ℕ × List ℕ) → List Bool → ℕ → ℕ
ordinal_ups columns to column flags ordinal = up_marks columns to (cut_from (λ doc. has_ordinal ordinal (values_of doc column)) 0 flags)

abbrev pub shown_ups : Columns → ℕ → Kind → ℕ → List Bool → FieldValue → ℕ
shown_ups columns to kind f flags v = up_marks columns to (cut_from (λ doc. shows kind f v (flat_of columns doc)) 0 flags)

-- so it is of each of so many ordinals, the first having a number
pub record AreUps (columns : Columns) (to : ℕ) (column : List (ℕ × List ℕ)) (flags : List Bool) (first count : ℕ) (ups : List ℕ) : Type 0 where
  pub long : length ups ≡ count
  pub each : (k : ℕ) → k < count → get_or ups k 0 ≡ ordinal_ups columns to column flags (first + k)

-- to the numbers of each value that of the documents that show it is added
pub record UpsWeighed (columns : Columns) (to : ℕ) (kind : Kind) (f : ℕ) (flags : List Bool) (old new : List CountRow) : Type 0 where
  pub each : (v : FieldValue) → weight v new ≡ weight v old + shown_ups columns to kind f flags v

-- over all entries
abbrev pub view_ups : ℕ → Kind → ℕ → List EntryState → List (List (Option ℕ)) → FieldValue → ℕ
view_ups to kind f view scores v = up_total to view (passed_of_view (shows kind f v) view scores)

-- the bucket of a value whose only definition inside asks for the objects of a path around them: their number is that of the rows
abbrev pub facet_of : List ℕ → List CountRow → CountRow → BucketPart
facet_of name ups row = record { key = row.key; count = row.count; inner = replies_of (record { name = name; value = single (weight row.key ups) (replies_of []) } ∷ []) }

-- ---- the order of rows

abbrev pub row_first : Bool → CountRow → CountRow → Bool
row_first true a b = nat_lt b.count a.count
row_first false a b = nat_lt a.count b.count

-- by key, or by count and then by ascending key
abbrev pub rows_ordered : Bool → Bool → List CountRow → List CountRow
rows_ordered true true rows = reverse rows
rows_ordered true false rows = rows
rows_ordered false descending rows = in_order (row_first descending) rows
