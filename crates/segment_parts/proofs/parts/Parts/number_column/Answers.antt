use Rattle.std.proofs.Common.{◌≡◌, ◌∙◌, ◌<◌, length, get_or, slice_get, int_cmp, ap, sym, subst, List, ℕ, Some, arith, w64, FitsSigned, ℤ}
use Rattle.std.proofs.lemmas.List.{length-map}
use Rattle.part_text.specs.Text.{i64_text}
use Rattle.part_text.specs.Reading.{i64_at}
use Rattle.segment_parts.specs.Kept.{IsKept, column_in, column_at_place}
use Rattle.segment_parts.specs.declared.columns.Columns.{Columns}
use Rattle.segment_parts.proofs.parts.Parts.number_column.Goals as goal

pub returns : goal.returns
returns c =
    let it = c.self.inside in
    let own = c.index-as_slice-at.result in
    let column_of_kept : ℕ × List ℕ → ℕ × List (ℕ × List ℤ) = λ k. column_in int_cmp i64_at it.bytes.items k.1 in
    let inside : c.args.at < length it.numbers = omega (arith, c.requires, ap (λ (columns : Columns). length columns.numbers) c.self.view_is, length-map it.numbers column_of_kept) in
    let is : own ≡ get_or it.numbers c.args.at own = c.index-as_slice-at.is ∙ ap (λ (kept : List (ℕ × List ℕ)). get_or kept c.args.at own) c.as_slice.ensures.columns in
    let kept : IsKept int_cmp (FitsSigned w64) i64_text i64_at it.bytes.items own = subst (IsKept int_cmp (FitsSigned w64) i64_text i64_at it.bytes.items) (sym is) (c.self.invariant.numbers_kept c.args.at own inside) in
    let rows = c.over-column.ensures (column_in int_cmp i64_at it.bytes.items own.1) (rw c.as_slice-2.ensures.value kept.belong) in
    subst (λ (columns : Columns). slice_get columns.numbers c.args.at ≡ Some (own.0, c.over-column.result)) c.self.view_is (column_at_place int_cmp i64_at it.bytes.items it.numbers c.args.at own c.over-column.result kept.field inside is rows)
