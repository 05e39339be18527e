use Rattle.std.proofs.Common.{List, ℕ, ap, sym, subst, ◌∙◌}
use Rattle.json.specs.Print.{escape_byte}
use Rattle.tree_json.specs.Text.{quoted}
use Rattle.reply_text.specs.Object.{object_text}
use Rattle.reply_text.specs.Printed.{Printed}
use Rattle.reply_text.specs.Text.{line_of}
use Rattle.reply_text.specs.declared.layout.MergeRow.{MergeRow}
use Rattle.reply_text.specs.declared.layout.SegmentRow.{SegmentRow}
use Rattle.reply_text.specs.declared.reply.Reply.TheVariants.{Layout, Checked}
use Rattle.reply_text.proofs.LinePieces.{found_part-line, layout_part-line, store_part-line}
use Rattle.reply_text.proofs.printer.print.Goals as goal

pub returns-in-Found : goal.returns-in-Found
unfolding line_of
returns-in-Found c =
    let P : List ℕ → Type 0 = λ line. Printed line c.args.most c.args.into.now c.print_found.new.into c.print_found.result in
    subst P (found_part-line c.in-Found.page c.in-Found.answers ∙ sym (ap line_of c.in-Found.is)) c.print_found.ensures

pub returns-in-Layout : goal.returns-in-Layout
unfolding line_of
returns-in-Layout c =
    let P : List ℕ → Type 0 = λ line. Printed line c.args.most c.args.into.now c.print_layout.new.into c.print_layout.result in
    let merges = c.as_slice-in-Layout.result.now in
    let segments = c.as_slice-in-Layout-2.result.now in
    subst P
    (layout_part-line merges segments
    ∙ ap (λ (rows : List MergeRow). line_of (Layout rows segments)) c.as_slice-in-Layout.ensures
    ∙ ap (λ (rows : List SegmentRow). line_of (Layout c.in-Layout.merges rows)) c.as_slice-in-Layout-2.ensures
    ∙ sym (ap line_of c.in-Layout.is))
    c.print_layout.ensures

pub returns-in-Compacted : goal.returns-in-Compacted
unfolding line_of object_text quoted escape_byte
returns-in-Compacted c =
    let P : List ℕ → Type 0 = λ line. Printed line c.args.most c.args.into.now c.print_fields-in-Compacted.new.into c.print_fields-in-Compacted.result in
    subst P (sym (ap line_of c.in-Compacted.is)) c.print_fields-in-Compacted.ensures

pub returns-in-Checked : goal.returns-in-Checked
unfolding line_of
returns-in-Checked c =
    let P : List ℕ → Type 0 = λ line. Printed line c.args.most c.args.into.now c.print_store.new.into c.print_store.result in
    subst P
    (store_part-line c.in-Checked.next c.as_slice-in-Checked.result.now
    ∙ ap (λ (rows : List SegmentRow). line_of (Checked c.in-Checked.next rows)) c.as_slice-in-Checked.ensures
    ∙ sym (ap line_of c.in-Checked.is))
    c.print_store.ensures
