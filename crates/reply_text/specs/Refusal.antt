-- Refusals: the number, the reason and the further names of each, in the order of the numbers.
use Rattle.std.specs.Prelude.{ℕ, negsuc, List, [], ◌∷◌, Option, Some, None, codes, decimal}
use Rattle.std.specs.Fmt.{signed_decimal}
use Rattle.tree_json.specs.Text.{quoted}
use Rattle.reply_text.specs.Object.{Entry, entry, object_text}
use Rattle.reply_text.specs.declared.refusal.MappingLimit.{MappingLimit as Limit}
use Rattle.reply_text.specs.declared.refusal.MappingLimit.TheVariants.{Fields, Depth, Nested, Relations, Generations, Size}
use Rattle.reply_text.specs.declared.refused.Further.{Further}
use Rattle.reply_text.specs.declared.refused.Further.TheVariants as further
use Rattle.reply_text.specs.declared.refusal.Refusal.{Refusal}
use Rattle.reply_text.specs.declared.refusal.Refusal.TheVariants.{
  BadJson,
  FractionNumber,
  LineTooLong,
  BadRequest,
  MissingSource,
  NoMapping,
  MappingExists,
  MappingLimit,
  IndexNotFound,
  IdTooLong,
  WrongType,
  TermTooLong,
  TooManyObjects,
  VersionConflict,
  DocumentExists,
  DocumentMissing,
  BadJoin,
  UnknownPath,
  PathOutOfScope,
  UnknownRelation,
  SortFieldUnmapped,
  BadSort,
  WindowTooLarge,
  InnerWindowTooLarge,
  DuplicateInnerName,
  TooManyClauses,
  QueryTooDeep,
  TooManyTerms,
  UnknownPit,
  TooManyPits,
  BadMergeRange,
  MergeOverlaps,
  UnknownMerge,
  MergeNotDone,
  StoreFull,
  IndexFull,
  ReplyTooLarge,
  DiskFailure,
  BadValue,
  TooManyMerges,
  SourceTooLong,
  MappingConflict,
  TooManyBuckets,
  TooManyCombinations,
}

abbrev pub limit_word : Limit → List ℕ
limit_word Fields = codes "fields"
limit_word Depth = codes "depth"
limit_word Nested = codes "nested"
limit_word Relations = codes "relations"
limit_word Generations = codes "generations"
limit_word Size = codes "size"

-- the number of the live tree, -1 where there is none
abbrev pub live_text : Option ℕ → List ℕ
live_text None = signed_decimal (negsuc 0)
live_text (Some number) = decimal number

-- what a refusal tells: its number, its reason and what else it names
pub record Told : Type 0 where
  pub number : ℕ
  pub reason : List ℕ
  pub further : List Entry

abbrev pub told : ℕ → List ℕ → List Entry → Told
told number reason further = record { number = number; reason = reason; further = further }

abbrev pub told_by : Refusal → Told
told_by BadJson = told 1 (codes "bad_json") []
told_by FractionNumber = told 2 (codes "fraction_number") []
told_by LineTooLong = told 3 (codes "line_too_long") []
told_by BadRequest = told 4 (codes "bad_request") []
told_by MissingSource = told 5 (codes "missing_source") []
told_by NoMapping = told 6 (codes "no_mapping") []
told_by MappingExists = told 7 (codes "mapping_exists") []
told_by (MappingLimit limit) = told 8 (codes "mapping_limit") (entry (codes "limit") (quoted (limit_word limit)) ∷ [])
told_by IndexNotFound = told 9 (codes "index_not_found") []
told_by IdTooLong = told 10 (codes "id_too_long") []
told_by (WrongType field) = told 11 (codes "wrong_type") (entry (codes "field") (quoted field) ∷ [])
told_by (TermTooLong field) = told 12 (codes "term_too_long") (entry (codes "field") (quoted field) ∷ [])
told_by TooManyObjects = told 13 (codes "too_many_objects") []
told_by (VersionConflict live) = told 14 (codes "version_conflict") (entry (codes "seq_no") (live_text live) ∷ [])
told_by (DocumentExists live) = told 15 (codes "document_exists") (entry (codes "seq_no") (decimal live) ∷ [])
told_by DocumentMissing = told 16 (codes "document_missing") []
told_by BadJoin = told 17 (codes "bad_join") []
told_by UnknownPath = told 18 (codes "unknown_path") []
told_by PathOutOfScope = told 18 (codes "path_out_of_scope") []
told_by UnknownRelation = told 19 (codes "unknown_relation") []
told_by SortFieldUnmapped = told 20 (codes "sort_field_unmapped") []
told_by BadSort = told 21 (codes "bad_sort") []
told_by WindowTooLarge = told 22 (codes "window_too_large") []
told_by InnerWindowTooLarge = told 23 (codes "inner_window_too_large") []
told_by DuplicateInnerName = told 24 (codes "duplicate_inner_name") []
told_by TooManyClauses = told 25 (codes "too_many_clauses") []
told_by QueryTooDeep = told 25 (codes "query_too_deep") []
told_by TooManyTerms = told 25 (codes "too_many_terms") []
told_by UnknownPit = told 26 (codes "unknown_pit") []
told_by TooManyPits = told 27 (codes "too_many_pits") []
told_by BadMergeRange = told 28 (codes "bad_merge_range") []
told_by (MergeOverlaps merge) = told 29 (codes "merge_overlaps") (entry (codes "merge") (decimal merge) ∷ [])
told_by UnknownMerge = told 30 (codes "unknown_merge") []
told_by (MergeNotDone left merge) = told 31 (codes "merge_not_done") (entry (codes "left") (decimal left) ∷ entry (codes "merge") (decimal merge) ∷ [])
told_by StoreFull = told 32 (codes "store_full") []
told_by IndexFull = told 33 (codes "index_full") []
told_by ReplyTooLarge = told 34 (codes "reply_too_large") []
told_by DiskFailure = told 35 (codes "disk_failure") []
told_by BadValue = told 36 (codes "bad_value") []
told_by TooManyMerges = told 37 (codes "too_many_merges") []
told_by SourceTooLong = told 38 (codes "source_too_long") []
told_by (MappingConflict field) = told 39 (codes "mapping_conflict") (entry (codes "field") (quoted field) ∷ [])
told_by TooManyBuckets = told 40 (codes "too_many_buckets") []
told_by TooManyCombinations = told 41 (codes "too_many_combinations") []

-- the object that stands under `error`
abbrev pub told_text : Told → List ℕ
told_text it = object_text (entry (codes "number") (decimal it.number) ∷ entry (codes "reason") (quoted it.reason) ∷ it.further)

-- the entries of what the printer is handed besides number and reason
abbrev pub further_entries : Further → List Entry
further_entries further.Nothing = []
further_entries (further.Field path) = entry (codes "field") (quoted path.now) ∷ []
further_entries (further.Limit limit) = entry (codes "limit") (quoted (limit_word limit)) ∷ []
further_entries (further.Number live) = entry (codes "seq_no") (live_text (Some live)) ∷ []
further_entries further.NoNumber = entry (codes "seq_no") (live_text None) ∷ []
further_entries (further.Merge id) = entry (codes "merge") (decimal id) ∷ []
further_entries (further.MergeLeft left id) = entry (codes "left") (decimal left) ∷ entry (codes "merge") (decimal id) ∷ []
