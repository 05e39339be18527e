use Rattle.std.proofs.Common.{◌∙◌, int_cmp, ap, w64, FitsSigned}
use Rattle.part_text.specs.Text.{i64_text}
use Rattle.part_text.specs.Reading.{i64_at}
use Rattle.segment_parts.specs.Fields.{column_of}
use Rattle.segment_parts.specs.Kept.{column_in, found_kept, missing_kept}
use Rattle.segment_parts.specs.declared.columns.Columns.{Columns}
use Rattle.segment_parts.proofs.parts.Parts.numbers.Goals as goal

pub over-requires : goal.over-requires
over-requires c =
    let it = c.self.inside in
    let found = found_kept int_cmp (FitsSigned w64) i64_text i64_at it.bytes.items it.numbers c.args.field c.in-Some.places.now c.self.invariant.numbers_kept c.in-Some.ensures in
    (column_in int_cmp i64_at it.bytes.items c.in-Some.places.now, rw c.as_slice.ensures.value found.0)

pub returns-in-Some : goal.returns-in-Some
returns-in-Some c =
    let it = c.self.inside in
    let found = found_kept int_cmp (FitsSigned w64) i64_text i64_at it.bytes.items it.numbers c.args.field c.in-Some.places.now c.self.invariant.numbers_kept c.in-Some.ensures in
    let own = c.over.ensures (column_in int_cmp i64_at it.bytes.items c.in-Some.places.now) (rw c.as_slice.ensures.value found.0) in
    rw own (found.1 ∙ ap (λ (columns : Columns). column_of c.args.field columns.numbers) c.self.view_is)

pub returns-in-None : goal.returns-in-None
returns-in-None c =
    let it = c.self.inside in
    missing_kept int_cmp (FitsSigned w64) i64_text i64_at it.bytes.items it.numbers c.args.field c.self.invariant.numbers_kept c.in-None.ensures ∙ ap (λ (columns : Columns). column_of c.args.field columns.numbers) c.self.view_is
