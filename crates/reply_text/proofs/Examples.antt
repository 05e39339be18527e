-- Each form of reply computed, each part that may be left out once there and once left out: the lines are known beforehand,
-- so that a wrong definition doesn't check.
use Rattle.std.specs.Prelude.{◌≡◌, ℕ, pos, negsuc, List as Seq, [], ◌∷◌, ◌++◌, map, codes, Some, None, Option, refl}
use Rattle.std.specs.Fmt.{digits}
use Rattle.json.specs.Print.{escape_byte}
use Rattle.tree_json.specs.Text.{quoted}
use Rattle.tree_objects.specs.declared.field_value.FieldValue.TheVariants as field
use Rattle.query_ast.specs.Pages.{InnerHead, no_pages, with_page, Hits, no_hits, with_hit, PagePart}
use Rattle.query_ast.specs.Replies.{ReplyPart, ReplyValue, Replies, no_replies, with_reply, single, several, metric, no_buckets, with_bucket}
use Rattle.query_ast.specs.declared.hit.Hit.{Hit}
use Rattle.query_ast.specs.declared.hit.Level.{Level}
use Rattle.query_ast.specs.declared.sort.Key.{Key}
use Rattle.query_ast.specs.declared.sort.Key.TheVariants as key
use Rattle.reply_text.specs.Object.{object_text}
use Rattle.reply_text.specs.HitTexts.{hit_text, inner_hit_text}
use Rattle.reply_text.specs.Layout.{segment_text, merge_text, segments_text, merges_text}
use Rattle.reply_text.specs.Text.{line_of, reply_text}
use Rattle.reply_text.specs.declared.layout.SegmentRow.{SegmentRow}
use Rattle.reply_text.specs.declared.layout.MergeRow.{MergeRow}
use Rattle.reply_text.specs.declared.refusal.MappingLimit.TheVariants as limit
use Rattle.reply_text.specs.declared.refusal.Refusal.TheVariants as why
use Rattle.reply_text.specs.declared.reply.WriteResult.TheVariants.{Created, Updated, Deleted, Noop}
use Rattle.reply_text.specs.declared.reply.Reply.{Reply}
use Rattle.reply_text.specs.declared.reply.Reply.TheVariants.{
  Mapped,
  Refreshed,
  Written,
  NotFound,
  Found,
  PitOpened,
  PitClosed,
  MergeStarted,
  MergeAdvanced,
  MergeFinished,
  MergeAborted,
  ForceMerged,
  AutoMerge,
  Layout,
  Committed,
  Compacted,
  Trimmed,
  Checked,
  RanMade,
  Refused,
  OutOfMemory,
}

-- a reply, and its line without the newline
abbrev Row : Type 0
Row = Reply × Seq ℕ

a_newline_ends_the_line : reply_text Mapped ≡ codes "{\"result\":\"mapped\"}" ++ 10 ∷ []
unfolding line_of object_text quoted escape_byte
a_newline_ends_the_line = refl

-- replies without lists
abbrev short_replies : Seq Row
short_replies =
    (Mapped, codes "{\"result\":\"mapped\"}")
    ∷ (Refreshed, codes "{\"result\":\"refreshed\"}")
    ∷ (Written (codes "1") 0 Created, codes "{\"_id\":\"1\",\"_seq_no\":0,\"result\":\"created\"}")
    ∷ (Written (codes "a\"b") 7 Updated, codes "{\"_id\":\"a\\\"b\",\"_seq_no\":7,\"result\":\"updated\"}")
    ∷ (Written (codes "7") 2 Deleted, codes "{\"_id\":\"7\",\"_seq_no\":2,\"result\":\"deleted\"}")
    ∷ (Written (codes "1") 0 Noop, codes "{\"_id\":\"1\",\"_seq_no\":0,\"result\":\"noop\"}")
    ∷ (NotFound (codes "8"), codes "{\"_id\":\"8\",\"result\":\"not_found\"}")
    ∷ (PitOpened 1, codes "{\"pit\":1,\"result\":\"opened\"}")
    ∷ (PitClosed 1, codes "{\"pit\":1,\"result\":\"closed\"}")
    ∷ (MergeStarted 1 3, codes "{\"merge\":1,\"roots\":3}")
    ∷ (MergeAdvanced 2 1, codes "{\"left\":2,\"merge\":1}")
    ∷ (MergeFinished 2 1, codes "{\"live\":2,\"merge\":1}")
    ∷ (MergeAborted 2, codes "{\"merge\":2}")
    ∷ (ForceMerged 1, codes "{\"segments\":1}")
    ∷ (AutoMerge 0, codes "{\"automerge\":0}")
    ∷ (Committed 1, codes "{\"next_seq_no\":1}")
    ∷ (Compacted 1 1, codes "{\"moved\":1,\"next_seq_no\":1}")
    ∷ (Trimmed 2292, codes "{\"bytes\":2292}")
    ∷ (RanMade 38 0 2, codes "{\"bytes\":38,\"errors\":0,\"lines\":2}")
    ∷ (OutOfMemory, codes "{\"error\":{\"reason\":\"out_of_memory\"}}")
    ∷ []

short_replies_are_printed : map (λ row. line_of row.0) short_replies ≡ map (λ row. row.1) short_replies
unfolding line_of object_text quoted escape_byte digits
short_replies_are_printed = refl

-- ---- the layout

abbrev segment : ℕ → ℕ → ℕ → ℕ → SegmentRow
segment dead first last live = record { dead = dead; first = first; last = last; live = live; objects = 2 }

abbrev merge : MergeRow
merge = record { count = 3; from = 0; left = 1; merge = 1 }

-- with segments and merges and with none
abbrev layouts : Seq Row
layouts =
    (Layout [] [], codes "{\"merges\":[],\"segments\":[]}")
    ∷ (Layout (merge ∷ []) (segment 0 0 0 1 ∷ segment 1 1 1 0 ∷ []), codes "{\"merges\":[{\"count\":3,\"from\":0,\"left\":1,\"merge\":1}],\"segments\":[{\"dead\":0,\"first\":0,\"last\":0,\"live\":1,\"objects\":2},{\"dead\":1,\"first\":1,\"last\":1,\"live\":0,\"objects\":2}]}")
    ∷ (Checked 0 [], codes "{\"next_seq_no\":0,\"segments\":[]}")
    ∷ (Checked 1 (segment 0 0 0 1 ∷ []), codes "{\"next_seq_no\":1,\"segments\":[{\"dead\":0,\"first\":0,\"last\":0,\"live\":1,\"objects\":2}]}")
    ∷ []

layouts_are_printed : map (λ row. line_of row.0) layouts ≡ map (λ row. row.1) layouts
unfolding line_of object_text quoted escape_byte digits segment_text merge_text segments_text merges_text
layouts_are_printed = refl

-- ---- refusals

-- refusals that name nothing further
abbrev refusals : Seq Row
refusals =
    (Refused why.BadJson, codes "{\"error\":{\"number\":1,\"reason\":\"bad_json\"}}")
    ∷ (Refused why.FractionNumber, codes "{\"error\":{\"number\":2,\"reason\":\"fraction_number\"}}")
    ∷ (Refused why.LineTooLong, codes "{\"error\":{\"number\":3,\"reason\":\"line_too_long\"}}")
    ∷ (Refused why.BadRequest, codes "{\"error\":{\"number\":4,\"reason\":\"bad_request\"}}")
    ∷ (Refused why.MissingSource, codes "{\"error\":{\"number\":5,\"reason\":\"missing_source\"}}")
    ∷ (Refused why.NoMapping, codes "{\"error\":{\"number\":6,\"reason\":\"no_mapping\"}}")
    ∷ (Refused why.MappingExists, codes "{\"error\":{\"number\":7,\"reason\":\"mapping_exists\"}}")
    ∷ (Refused why.IndexNotFound, codes "{\"error\":{\"number\":9,\"reason\":\"index_not_found\"}}")
    ∷ (Refused why.IdTooLong, codes "{\"error\":{\"number\":10,\"reason\":\"id_too_long\"}}")
    ∷ (Refused why.TooManyObjects, codes "{\"error\":{\"number\":13,\"reason\":\"too_many_objects\"}}")
    ∷ (Refused why.DocumentMissing, codes "{\"error\":{\"number\":16,\"reason\":\"document_missing\"}}")
    ∷ (Refused why.BadJoin, codes "{\"error\":{\"number\":17,\"reason\":\"bad_join\"}}")
    ∷ (Refused why.UnknownPath, codes "{\"error\":{\"number\":18,\"reason\":\"unknown_path\"}}")
    ∷ (Refused why.PathOutOfScope, codes "{\"error\":{\"number\":18,\"reason\":\"path_out_of_scope\"}}")
    ∷ (Refused why.UnknownRelation, codes "{\"error\":{\"number\":19,\"reason\":\"unknown_relation\"}}")
    ∷ (Refused why.SortFieldUnmapped, codes "{\"error\":{\"number\":20,\"reason\":\"sort_field_unmapped\"}}")
    ∷ (Refused why.BadSort, codes "{\"error\":{\"number\":21,\"reason\":\"bad_sort\"}}")
    ∷ (Refused why.WindowTooLarge, codes "{\"error\":{\"number\":22,\"reason\":\"window_too_large\"}}")
    ∷ (Refused why.InnerWindowTooLarge, codes "{\"error\":{\"number\":23,\"reason\":\"inner_window_too_large\"}}")
    ∷ (Refused why.DuplicateInnerName, codes "{\"error\":{\"number\":24,\"reason\":\"duplicate_inner_name\"}}")
    ∷ (Refused why.TooManyClauses, codes "{\"error\":{\"number\":25,\"reason\":\"too_many_clauses\"}}")
    ∷ (Refused why.QueryTooDeep, codes "{\"error\":{\"number\":25,\"reason\":\"query_too_deep\"}}")
    ∷ (Refused why.TooManyTerms, codes "{\"error\":{\"number\":25,\"reason\":\"too_many_terms\"}}")
    ∷ (Refused why.UnknownPit, codes "{\"error\":{\"number\":26,\"reason\":\"unknown_pit\"}}")
    ∷ (Refused why.TooManyPits, codes "{\"error\":{\"number\":27,\"reason\":\"too_many_pits\"}}")
    ∷ (Refused why.BadMergeRange, codes "{\"error\":{\"number\":28,\"reason\":\"bad_merge_range\"}}")
    ∷ (Refused why.UnknownMerge, codes "{\"error\":{\"number\":30,\"reason\":\"unknown_merge\"}}")
    ∷ (Refused why.StoreFull, codes "{\"error\":{\"number\":32,\"reason\":\"store_full\"}}")
    ∷ (Refused why.IndexFull, codes "{\"error\":{\"number\":33,\"reason\":\"index_full\"}}")
    ∷ (Refused why.ReplyTooLarge, codes "{\"error\":{\"number\":34,\"reason\":\"reply_too_large\"}}")
    ∷ (Refused why.DiskFailure, codes "{\"error\":{\"number\":35,\"reason\":\"disk_failure\"}}")
    ∷ (Refused why.BadValue, codes "{\"error\":{\"number\":36,\"reason\":\"bad_value\"}}")
    ∷ (Refused why.TooManyMerges, codes "{\"error\":{\"number\":37,\"reason\":\"too_many_merges\"}}")
    ∷ (Refused why.SourceTooLong, codes "{\"error\":{\"number\":38,\"reason\":\"source_too_long\"}}")
    ∷ (Refused why.TooManyBuckets, codes "{\"error\":{\"number\":40,\"reason\":\"too_many_buckets\"}}")
    ∷ (Refused why.TooManyCombinations, codes "{\"error\":{\"number\":41,\"reason\":\"too_many_combinations\"}}")
    ∷ []

refusals_are_printed : map (λ row. line_of row.0) refusals ≡ map (λ row. row.1) refusals
unfolding line_of object_text quoted escape_byte digits
refusals_are_printed = refl

-- refusals that name something further
abbrev refusals_with_names : Seq Row
refusals_with_names =
    (Refused (why.MappingLimit limit.Fields), codes "{\"error\":{\"limit\":\"fields\",\"number\":8,\"reason\":\"mapping_limit\"}}")
    ∷ (Refused (why.MappingLimit limit.Depth), codes "{\"error\":{\"limit\":\"depth\",\"number\":8,\"reason\":\"mapping_limit\"}}")
    ∷ (Refused (why.MappingLimit limit.Nested), codes "{\"error\":{\"limit\":\"nested\",\"number\":8,\"reason\":\"mapping_limit\"}}")
    ∷ (Refused (why.MappingLimit limit.Relations), codes "{\"error\":{\"limit\":\"relations\",\"number\":8,\"reason\":\"mapping_limit\"}}")
    ∷ (Refused (why.MappingLimit limit.Generations), codes "{\"error\":{\"limit\":\"generations\",\"number\":8,\"reason\":\"mapping_limit\"}}")
    ∷ (Refused (why.MappingLimit limit.Size), codes "{\"error\":{\"limit\":\"size\",\"number\":8,\"reason\":\"mapping_limit\"}}")
    ∷ (Refused (why.WrongType (codes "added")), codes "{\"error\":{\"field\":\"added\",\"number\":11,\"reason\":\"wrong_type\"}}")
    ∷ (Refused (why.TermTooLong (codes "sku")), codes "{\"error\":{\"field\":\"sku\",\"number\":12,\"reason\":\"term_too_long\"}}")
    ∷ (Refused (why.VersionConflict (Some 1)), codes "{\"error\":{\"number\":14,\"reason\":\"version_conflict\",\"seq_no\":1}}")
    ∷ (Refused (why.VersionConflict None), codes "{\"error\":{\"number\":14,\"reason\":\"version_conflict\",\"seq_no\":-1}}")
    ∷ (Refused (why.DocumentExists 1), codes "{\"error\":{\"number\":15,\"reason\":\"document_exists\",\"seq_no\":1}}")
    ∷ (Refused (why.MergeOverlaps 1), codes "{\"error\":{\"merge\":1,\"number\":29,\"reason\":\"merge_overlaps\"}}")
    ∷ (Refused (why.MergeNotDone 2 1), codes "{\"error\":{\"left\":2,\"merge\":1,\"number\":31,\"reason\":\"merge_not_done\"}}")
    ∷ (Refused (why.MappingConflict (codes "rel")), codes "{\"error\":{\"field\":\"rel\",\"number\":39,\"reason\":\"mapping_conflict\"}}")
    ∷ []

refusals_with_names_are_printed : map (λ row. line_of row.0) refusals_with_names ≡ map (λ row. row.1) refusals_with_names
unfolding line_of object_text quoted escape_byte digits
refusals_with_names_are_printed = refl

-- ---- pages of hits

abbrev found : Seq Hit → ℕ → Seq ReplyPart → Reply
found hits total answers = Found (record { hits = hits; total = total }) answers

-- the hit of id 1 and number 0
abbrev hit : ℕ → Seq Key → Option (Seq ℕ) → Seq PagePart → Hit
hit score keys source inner =
    record { id = codes "1"; number = 0; score = score; keys = keys; source = source; inner = inner }

abbrev one : Hit → Reply
one of = found (of ∷ []) 1 []

abbrev level : Seq ℕ → ℕ → Level
level path offset = record { field = path; offset = offset }

-- an inner hit of that tree
abbrev inside : Seq ℕ → Seq Level → ℕ → Option (Seq ℕ) → InnerHead
inside id levels score source = record { id = id; levels = levels; score = score; source = source }

abbrev page : Seq ℕ → Hits → ℕ → PagePart
page name hits total = record { name = name; hits = hits; total = total }

-- two objects two levels down
abbrev stocks : PagePart
stocks =
    page (codes "offers.stock")
    (with_hit (inside (codes "1") (level (codes "offers") 0 ∷ level (codes "stock") 1 ∷ []) 1 (Some (codes "{\"n\":2,\"site\":\"b\"}"))) no_pages
    (with_hit (inside (codes "1") (level (codes "offers") 1 ∷ level (codes "stock") 0 ∷ []) 1 (Some (codes "{\"n\":1,\"site\":\"b\"}"))) no_pages no_hits))
    2

-- a tree that is joined to the hit, with a page of nothing inside
abbrev answers : PagePart
answers =
    page (codes "answer") (with_hit (inside (codes "a") [] 0 None) (with_page (codes "none") no_hits 0 no_pages) no_hits) 1

-- an object one level down, of which the content isn't asked for
abbrev offers : PagePart
offers = page (codes "offers") (with_hit (inside (codes "1") (level (codes "offers") 3 ∷ []) 7 None) no_pages no_hits) 5

-- with hits and none, sources and none, keys of each kind and none, pages of inner hits and none
abbrev pages : Seq Row
pages =
    (found [] 0 [], codes "{\"hits\":{\"hits\":[],\"total\":0}}")
    ∷ (one (hit 2 (key.Number (pos 2) ∷ []) (Some (codes "{\"name\":\"chair\"}")) []), codes "{\"hits\":{\"hits\":[{\"_id\":\"1\",\"_score\":2,\"_source\":{\"name\":\"chair\"},\"sort\":[2,0]}],\"total\":1}}")
    ∷ (one (hit 1 (key.Null ∷ key.Number (negsuc 5) ∷ key.Written (codes "red") ∷ []) None []), codes "{\"hits\":{\"hits\":[{\"_id\":\"1\",\"_score\":1,\"sort\":[null,-6,\"red\",0]}],\"total\":1}}")
    ∷ (found (hit 1 [] None [] ∷ hit 0 [] None [] ∷ []) 9 [], codes "{\"hits\":{\"hits\":[{\"_id\":\"1\",\"_score\":1,\"sort\":[0]},{\"_id\":\"1\",\"_score\":0,\"sort\":[0]}],\"total\":9}}")
    ∷ (one (hit 1 (key.Number (pos 1) ∷ []) None (stocks ∷ answers ∷ [])), codes "{\"hits\":{\"hits\":[{\"_id\":\"1\",\"_score\":1,\"inner_hits\":{\"answer\":{\"hits\":{\"hits\":[{\"_id\":\"a\",\"_score\":0,\"inner_hits\":{\"none\":{\"hits\":{\"hits\":[],\"total\":0}}}}],\"total\":1}},\"offers.stock\":{\"hits\":{\"hits\":[{\"_id\":\"1\",\"_nested\":{\"_nested\":{\"field\":\"stock\",\"offset\":1},\"field\":\"offers\",\"offset\":0},\"_score\":1,\"_source\":{\"n\":2,\"site\":\"b\"}},{\"_id\":\"1\",\"_nested\":{\"_nested\":{\"field\":\"stock\",\"offset\":0},\"field\":\"offers\",\"offset\":1},\"_score\":1,\"_source\":{\"n\":1,\"site\":\"b\"}}],\"total\":2}}},\"sort\":[1,0]}],\"total\":1}}")
    ∷ (one (hit 1 [] (Some (codes "{}")) (offers ∷ [])), codes "{\"hits\":{\"hits\":[{\"_id\":\"1\",\"_score\":1,\"_source\":{},\"inner_hits\":{\"offers\":{\"hits\":{\"hits\":[{\"_id\":\"1\",\"_nested\":{\"field\":\"offers\",\"offset\":3},\"_score\":7}],\"total\":5}}},\"sort\":[0]}],\"total\":1}}")
    ∷ []

pages_are_printed : map (λ row. line_of row.0) pages ≡ map (λ row. row.1) pages
unfolding line_of object_text quoted escape_byte digits hit_text inner_hit_text
pages_are_printed = refl

-- ---- answers of buckets

abbrev answer : Seq ℕ → ReplyValue → ReplyPart
answer name value = record { name = name; value = value }

-- a bucket's count of the trees that its objects lie in, and two metrics
abbrev within : ℕ → Replies
within up =
    with_reply (codes "up") (single up no_replies)
    (with_reply (codes "least") (metric (Some (negsuc 4))) (with_reply (codes "at") (metric None) no_replies))

abbrev colours : ReplyValue
colours =
    several
    (with_bucket (field.Written (codes "red")) 2 (within 1) (with_bucket (field.Number (negsuc 6)) 1 (within 1) no_buckets))
    4

-- with buckets inside and none
abbrev buckets : Seq Row
buckets =
    (found [] 2 (answer (codes "o") (single 3 (with_reply (codes "c") colours no_replies)) ∷ answer (codes "n") (metric (Some (pos 0))) ∷ []), codes "{\"aggregations\":{\"n\":{\"value\":0},\"o\":{\"c\":{\"buckets\":[{\"at\":{\"value\":null},\"doc_count\":2,\"key\":\"red\",\"least\":{\"value\":-5},\"up\":{\"doc_count\":1}},{\"at\":{\"value\":null},\"doc_count\":1,\"key\":-7,\"least\":{\"value\":-5},\"up\":{\"doc_count\":1}}],\"sum_other_doc_count\":4},\"doc_count\":3}},\"hits\":{\"hits\":[],\"total\":2}}")
    ∷ (found [] 0 (answer (codes "c") (several (with_bucket (field.Number (pos 5)) 1 no_replies no_buckets) 0) ∷ answer (codes "none") (several no_buckets 0) ∷ answer (codes "m") (metric None) ∷ []), codes "{\"aggregations\":{\"c\":{\"buckets\":[{\"doc_count\":1,\"key\":5}],\"sum_other_doc_count\":0},\"m\":{\"value\":null},\"none\":{\"buckets\":[],\"sum_other_doc_count\":0}},\"hits\":{\"hits\":[],\"total\":0}}")
    ∷ (found (hit 1 [] None [] ∷ []) 1 (answer (codes "up") (single 0 no_replies) ∷ []), codes "{\"aggregations\":{\"up\":{\"doc_count\":0}},\"hits\":{\"hits\":[{\"_id\":\"1\",\"_score\":1,\"sort\":[0]}],\"total\":1}}")
    ∷ []

buckets_are_printed : map (λ row. line_of row.0) buckets ≡ map (λ row. row.1) buckets
unfolding line_of object_text quoted escape_byte digits hit_text
buckets_are_printed = refl
