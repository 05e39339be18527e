-- The insides of lines between their brackets are the objects that replies are.
use Rattle.std.proofs.Common.{◌≡◌, ℕ, ◌<◌, List, [], ◌∷◌, ◌++◌, length, map, false, codes, decimal, arith, refl, sym, ap, ◌∙◌, append_assoc}
use Rattle.std.proofs.lemmas.Grind.{common_steps}
use Rattle.json.specs.Print.{escape_byte}
use Rattle.tree_json.specs.Text.{quoted}
use Rattle.query_ast.specs.Replies.{ReplyPart, replies_of}
use Rattle.query_ast.specs.Replies.View.{reply_part}
use Rattle.query_ast.specs.declared.bucket.AggReply.{AggReply}
use Rattle.query_ast.specs.declared.hit.HitPage.{HitPage}
use Rattle.reply_text.specs.BucketParts.{answer_entry}
use Rattle.reply_text.specs.BucketTexts.{answer_entries}
use Rattle.reply_text.specs.HitTexts.{hit_text, hits_text}
use Rattle.reply_text.specs.Layout.{segment_text, merge_text, segments_text, merges_text}
use Rattle.reply_text.specs.LineParts.{aggregations_part, found_part, layout_part, store_part}
use Rattle.reply_text.specs.Object.{Entry, entry, braces, object_text, elements_text}
use Rattle.reply_text.specs.Text.{aggregations_entries, found_entries}
use Rattle.reply_text.specs.declared.layout.MergeRow.{MergeRow}
use Rattle.reply_text.specs.declared.layout.SegmentRow.{SegmentRow}
use Rattle.reply_text.proofs.BucketLines.{listed_answers}
use Rattle.reply_text.proofs.Flat.{object_text-flat, hits_text-line}

-- ---- errors

pub error_line : (text : List ℕ) → object_text (entry (codes "error") text ∷ []) ≡ codes "{\"error\":" ++ (text ++ codes "}")
unfolding quoted escape_byte
error_line text = object_text-flat (entry (codes "error") text ∷ [])

-- ---- answers of buckets

pub aggregations-none : (answers : List AggReply) (parts : List ReplyPart) → map reply_part answers ≡ parts → length answers ≡ 0 → aggregations_part (answer_entries (replies_of parts)) ≡ []
aggregations-none [] parts e h = rw (sym e) refl
aggregations-none (answer ∷ answers) parts e h = absurd (omega arith)

pub aggregations-some : (answers : List AggReply) (parts : List ReplyPart) → map reply_part answers ≡ parts → 0 < length answers
    → aggregations_part (answer_entries (replies_of parts)) ≡ codes "\"aggregations\":" ++ (object_text (map answer_entry answers) ++ codes ",")
aggregations-some [] parts e h = absurd (omega arith)
aggregations-some (answer ∷ answers) parts e h =
    rw (sym e) (ap (λ (more : List Entry). codes "\"aggregations\":" ++ (object_text (answer_entry answer ∷ more) ++ codes ",")) (sym (listed_answers answers)))

pub ruleset aggregations = (common_steps, aggregations-none, aggregations-some)

-- ---- what a search found

found_parts : (answers : List Entry) (hits : List (List ℕ)) (total : ℕ)
    → object_text (aggregations_entries answers ++ entry (codes "hits") (hits_text hits total) ∷ [])
    ≡ braces (aggregations_part answers ++ (codes "\"hits\":" ++ hits_text hits total))
unfolding quoted escape_byte
found_parts [] hits total = object_text-flat (entry (codes "hits") (hits_text hits total) ∷ [])
found_parts (answer ∷ answers) hits total =
    object_text-flat (entry (codes "aggregations") (object_text (answer ∷ answers)) ∷ entry (codes "hits") (hits_text hits total) ∷ [])
    ∙ regrouped (codes "{") (codes "\"aggregations\":") (object_text (answer ∷ answers)) (codes ",") (codes "\"hits\":") (hits_text hits total) (codes "}")
  where
    regrouped : (start name text comma name2 text2 end : List ℕ)
        → start ++ (name ++ (text ++ ((comma ++ name2) ++ (text2 ++ end)))) ≡ start ++ (((name ++ (text ++ comma)) ++ (name2 ++ text2)) ++ end)
    regrouped start name text comma name2 text2 end = simp append_assoc

pub found_part-line : (page : HitPage) (answers : List ReplyPart) → braces (found_part page answers) ≡ object_text (found_entries page answers)
unfolding found_part
found_part-line page answers =
    let hits = map hit_text page.hits in
    let parts = answer_entries (replies_of answers) in
    sym (found_parts parts hits page.total
    ∙ ap (λ (text : List ℕ). braces (aggregations_part parts ++ (codes "\"hits\":" ++ text))) (hits_text-line hits page.total))

-- ---- the layout

two_lists : (start merges close middle segments end : List ℕ)
    → start ++ ((merges ++ close) ++ (middle ++ ((segments ++ close) ++ end))) ≡ (start ++ (merges ++ ((close ++ middle) ++ (segments ++ close)))) ++ end
two_lists start merges close middle segments end = simp append_assoc

one_list : (start number middle segments close end : List ℕ)
    → start ++ (number ++ (middle ++ ((segments ++ close) ++ end))) ≡ (start ++ (number ++ (middle ++ (segments ++ close)))) ++ end
one_list start number middle segments close end = simp append_assoc

pub layout_part-line : (merges : List MergeRow) (segments : List SegmentRow)
    → braces (layout_part merges segments) ≡ object_text (entry (codes "merges") (merges_text merges) ∷ entry (codes "segments") (segments_text segments) ∷ [])
unfolding layout_part merges_text segments_text quoted escape_byte
layout_part-line merges segments =
    sym (object_text-flat (entry (codes "merges") (merges_text merges) ∷ entry (codes "segments") (segments_text segments) ∷ [])
    ∙ two_lists (codes "{\"merges\":[") (elements_text false (map merge_text merges)) (codes "]") (codes ",\"segments\":[") (elements_text false (map segment_text segments)) (codes "}"))

pub store_part-line : (next : ℕ) (segments : List SegmentRow)
    → braces (store_part next segments) ≡ object_text (entry (codes "next_seq_no") (decimal next) ∷ entry (codes "segments") (segments_text segments) ∷ [])
unfolding store_part segments_text quoted escape_byte
store_part-line next segments =
    sym (object_text-flat (entry (codes "next_seq_no") (decimal next) ∷ entry (codes "segments") (segments_text segments) ∷ [])
    ∙ one_list (codes "{\"next_seq_no\":") (decimal next) (codes ",\"segments\":[") (elements_text false (map segment_text segments)) (codes "]") (codes "}"))

pub ruleset lines = (common_steps, error_line, found_part-line, layout_part-line, store_part-line)
