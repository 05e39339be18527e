use Rattle.std.proofs.Common.{◌≡◌, ℕ, true, false, get_or, slice_index, refl, sym, ap, ◌∙◌}
use Rattle.doc_values.specs.Values.{documents}
use Rattle.bucket_aggs.proofs.Told.{count_alike}
use Rattle.bucket_aggs.proofs.metrics.row_count.Goals as goal

pub returns-then-is_in : goal.returns-then-is_in
returns-then-is_in g c = λ values is.
    let doc : ℕ = slice_index (documents c.args.column.now) c.args.row in
    let held : get_or c.args.set.now doc false ≡ true = ap (λ (d : ℕ). get_or c.args.set.now d false) (sym c.doc.ensures) ∙ sym c.is_in.ensures ∙ c.if-is_in.true in
    rw held (c.len.ensures ∙ count_alike c.args.column.now c.args.row doc c.row_values.result values c.row_values.ensures is)

pub returns-else-is_in : goal.returns-else-is_in
returns-else-is_in g c = λ values is.
    let doc : ℕ = slice_index (documents c.args.column.now) c.args.row in
    let failed : get_or c.args.set.now doc false ≡ false = ap (λ (d : ℕ). get_or c.args.set.now d false) (sym c.doc.ensures) ∙ sym c.is_in.ensures ∙ c.if-is_in.false in
    rw failed refl
