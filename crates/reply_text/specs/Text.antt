-- Replies as texts: each form's entries, in the order of the requests, and the line that they make.
use Rattle.std.specs.Prelude.{ℕ, List, [], ◌∷◌, ◌++◌, codes, decimal, map}
use Rattle.tree_json.specs.Text.{quoted}
use Rattle.reply_text.specs.Object.{Entry, entry, object_text}
use Rattle.reply_text.specs.Printed.{newline}
use Rattle.query_ast.specs.Replies.{ReplyPart, replies_of}
use Rattle.query_ast.specs.declared.hit.HitPage.{HitPage}
use Rattle.reply_text.specs.BucketTexts.{answer_entries}
use Rattle.reply_text.specs.HitTexts.{hit_text, hits_text}
use Rattle.reply_text.specs.Refusal.{told_by, told_text}
use Rattle.reply_text.specs.Layout.{segments_text, merges_text}
use Rattle.reply_text.specs.declared.reply.WriteResult.{WriteResult}
use Rattle.reply_text.specs.declared.reply.WriteResult.TheVariants.{Created, Updated, Deleted, Noop}
use Rattle.reply_text.specs.declared.reply.Reply.{Reply}
use Rattle.reply_text.specs.declared.reply.Reply.TheVariants.{
  Mapped,
  Refreshed,
  Written,
  NotFound,
  Found,
  PitOpened,
  PitClosed,
  MergeStarted,
  MergeAdvanced,
  MergeFinished,
  MergeAborted,
  ForceMerged,
  AutoMerge,
  Layout,
  Committed,
  Compacted,
  Trimmed,
  Checked,
  RanMade,
  Refused,
  OutOfMemory,
}

abbrev pub result_word : WriteResult → List ℕ
result_word Created = codes "created"
result_word Updated = codes "updated"
result_word Deleted = codes "deleted"
result_word Noop = codes "noop"

-- the answers of buckets, where the search has any
abbrev pub aggregations_entries : List Entry → List Entry
aggregations_entries [] = []
aggregations_entries (answer ∷ answers) = entry (codes "aggregations") (object_text (answer ∷ answers)) ∷ []

abbrev pub found_entries : HitPage → List ReplyPart → List Entry
found_entries page answers =
    aggregations_entries (answer_entries (replies_of answers)) ++ entry (codes "hits") (hits_text (map hit_text page.hits) page.total) ∷ []

abbrev pub reply_entries : Reply → List Entry
reply_entries Mapped = entry (codes "result") (quoted (codes "mapped")) ∷ []
reply_entries Refreshed = entry (codes "result") (quoted (codes "refreshed")) ∷ []
reply_entries (Written id number result) =
    entry (codes "_id") (quoted id) ∷ entry (codes "_seq_no") (decimal number) ∷ entry (codes "result") (quoted (result_word result)) ∷ []
reply_entries (NotFound id) = entry (codes "_id") (quoted id) ∷ entry (codes "result") (quoted (codes "not_found")) ∷ []
reply_entries (Found page answers) = found_entries page answers
reply_entries (PitOpened pit) = entry (codes "pit") (decimal pit) ∷ entry (codes "result") (quoted (codes "opened")) ∷ []
reply_entries (PitClosed pit) = entry (codes "pit") (decimal pit) ∷ entry (codes "result") (quoted (codes "closed")) ∷ []
reply_entries (MergeStarted merge roots) = entry (codes "merge") (decimal merge) ∷ entry (codes "roots") (decimal roots) ∷ []
reply_entries (MergeAdvanced left merge) = entry (codes "left") (decimal left) ∷ entry (codes "merge") (decimal merge) ∷ []
reply_entries (MergeFinished live merge) = entry (codes "live") (decimal live) ∷ entry (codes "merge") (decimal merge) ∷ []
reply_entries (MergeAborted merge) = entry (codes "merge") (decimal merge) ∷ []
reply_entries (ForceMerged segments) = entry (codes "segments") (decimal segments) ∷ []
reply_entries (AutoMerge factor) = entry (codes "automerge") (decimal factor) ∷ []
reply_entries (Layout merges segments) =
    entry (codes "merges") (merges_text merges) ∷ entry (codes "segments") (segments_text segments) ∷ []
reply_entries (Committed next) = entry (codes "next_seq_no") (decimal next) ∷ []
reply_entries (Compacted moved next) = entry (codes "moved") (decimal moved) ∷ entry (codes "next_seq_no") (decimal next) ∷ []
reply_entries (Trimmed bytes) = entry (codes "bytes") (decimal bytes) ∷ []
reply_entries (Checked next segments) =
    entry (codes "next_seq_no") (decimal next) ∷ entry (codes "segments") (segments_text segments) ∷ []
reply_entries (RanMade bytes errors lines) =
    entry (codes "bytes") (decimal bytes) ∷ entry (codes "errors") (decimal errors) ∷ entry (codes "lines") (decimal lines) ∷ []
reply_entries (Refused why) = entry (codes "error") (told_text (told_by why)) ∷ []
reply_entries OutOfMemory =
    entry (codes "error") (object_text (entry (codes "reason") (quoted (codes "out_of_memory")) ∷ [])) ∷ []

-- the text of a reply without its newline, which is what the limit of a reply is measured of
unfoldable pub line_of : Reply → List ℕ
line_of reply = object_text (reply_entries reply)

-- the text of a reply: one line
abbrev pub reply_text : Reply → List ℕ
reply_text reply = line_of reply ++ newline
