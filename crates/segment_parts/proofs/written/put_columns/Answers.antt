use Rattle.std.proofs.Common.{◌∙◌, ◌++◌, append_assoc, arith, ap, length, List, ℕ}
use Rattle.std.specs.List.{flat_map}
use Rattle.std.proofs.lemmas.List.{take_all}
use Rattle.part_text.specs.Text.{u32_text, counted_text}
use Rattle.doc_values.specs.Text.{column_text}
use Rattle.segment_parts.proofs.written.put_columns.Goals as goal

pub overflow_cast-own : goal.overflow_cast-own
overflow_cast-own g c = omega (arith, c.as_slice-own.ensures.are.fewer, ap length c.as_slice-own.ensures.columns)

pub returns : goal.returns
returns g c =
    let own = c.as_slice-own.result.now in
    let old = c.args.into.now.items in
    let text = column_text g.T.ColumnValue.text in
    c.columns.invariant
    ∙ ap (λ (xs : List (ℕ × List (ℕ × List g.row.T.Denot))). (old ++ u32_text (length own)) ++ flat_map text xs) (take_all c.columns.column-index own (omega (arith, c.columns-test.false)))
    ∙ append_assoc old (u32_text (length own)) (flat_map text own)
    ∙ ap (λ (xs : List (ℕ × List (ℕ × List g.row.T.Denot))). old ++ counted_text u32_text text xs) c.as_slice-own.ensures.columns
