use Rattle.std.proofs.Common.{◌≤◌, ◌∙◌, length, drop, sym, subst, ap}
use Rattle.part_text.specs.Front.{first_u32}
use Rattle.segment_parts.specs.Kept.{field_first, column_taken}
use Rattle.segment_parts.proofs.values.column_at.Goals as goal

pub first_u32-field-requires : goal.first_u32-field-requires
first_u32-field-requires g c =
    let found = rw c.in-Some.is at c.in_ok-places.ensures.found in
    let long = (field_first g.T.ColumnValue.text found.0 (drop c.args.at c.args.bytes.now) (drop c.in-Some.end c.args.bytes.now) found.1.is.field found.1.there).0 in
    subst (λ own. 4 ≤ length own) (sym c.split_at.ensures.back) long

pub returns-in-Some-clause-taken : goal.returns-in-Some-clause-taken
returns-in-Some-clause-taken g c =
    let found = rw c.in-Some.is at c.in_ok-places.ensures.found in
    column_taken g.T.Ord.cmp g.T.ColumnValue.Fits g.T.ColumnValue.text g.T.ColumnValue.read g.met.T.ColumnValue.reads c.args.bytes.now c.args.at found.0 c.in-Some.places c.in-Some.end c.first_u32-field.result found.1
    (c.first_u32-field.ensures ∙ ap first_u32 c.split_at.ensures.back)
