use Rattle.std.proofs.Common.{◌≡◌, ◌∙◌, ◌<◌, length, get_or, slice_get, nat_cmp, ap, sym, subst, List, ℕ, Some, arith}
use Rattle.std.proofs.lemmas.List.{length-map}
use Rattle.part_text.specs.Text.{u64_text}
use Rattle.part_text.specs.Reading.{u64_at}
use Rattle.doc_values.specs.Values.{IsOrdinal}
use Rattle.segment_parts.specs.Kept.{IsKept, column_in, column_at_place}
use Rattle.segment_parts.specs.declared.columns.Columns.{Columns}
use Rattle.segment_parts.proofs.parts.Parts.ordinal_column.Goals as goal

pub returns : goal.returns
returns c =
    let it = c.self.inside in
    let own = c.index-as_slice-at.result in
    let column_of_kept : ℕ × List ℕ → ℕ × List (ℕ × List ℕ) = λ k. column_in nat_cmp u64_at it.bytes.items k.1 in
    let inside : c.args.at < length it.ordinals = omega (arith, c.requires, ap (λ (columns : Columns). length columns.ordinals) c.self.view_is, length-map it.ordinals column_of_kept) in
    let is : own ≡ get_or it.ordinals c.args.at own = c.index-as_slice-at.is ∙ ap (λ (kept : List (ℕ × List ℕ)). get_or kept c.args.at own) c.as_slice.ensures.columns in
    let kept : IsKept nat_cmp (IsOrdinal) u64_text u64_at it.bytes.items own = subst (IsKept nat_cmp (IsOrdinal) u64_text u64_at it.bytes.items) (sym is) (c.self.invariant.ordinals_kept c.args.at own inside) in
    let rows = c.over-column.ensures (column_in nat_cmp u64_at it.bytes.items own.1) (rw c.as_slice-2.ensures.value kept.belong) in
    subst (λ (columns : Columns). slice_get columns.ordinals c.args.at ≡ Some (own.0, c.over-column.result)) c.self.view_is (column_at_place nat_cmp u64_at it.bytes.items it.ordinals c.args.at own c.over-column.result kept.field inside is rows)
