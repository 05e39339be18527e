use Rattle.std.proofs.Common.{◌∙◌, nat_cmp, ap}
use Rattle.part_text.specs.Text.{u64_text}
use Rattle.part_text.specs.Reading.{u64_at}
use Rattle.doc_values.specs.Values.{IsOrdinal}
use Rattle.segment_parts.specs.Fields.{column_of}
use Rattle.segment_parts.specs.Kept.{column_in, found_kept, missing_kept}
use Rattle.segment_parts.specs.declared.columns.Columns.{Columns}
use Rattle.segment_parts.proofs.parts.Parts.ordinals.Goals as goal

pub over-requires : goal.over-requires
over-requires c =
    let it = c.self.inside in
    let found = found_kept nat_cmp (IsOrdinal) u64_text u64_at it.bytes.items it.ordinals c.args.field c.in-Some.places.now c.self.invariant.ordinals_kept c.in-Some.ensures in
    (column_in nat_cmp u64_at it.bytes.items c.in-Some.places.now, rw c.as_slice.ensures.value found.0)

pub returns-in-Some : goal.returns-in-Some
returns-in-Some c =
    let it = c.self.inside in
    let found = found_kept nat_cmp (IsOrdinal) u64_text u64_at it.bytes.items it.ordinals c.args.field c.in-Some.places.now c.self.invariant.ordinals_kept c.in-Some.ensures in
    let own = c.over.ensures (column_in nat_cmp u64_at it.bytes.items c.in-Some.places.now) (rw c.as_slice.ensures.value found.0) in
    rw own (found.1 ∙ ap (λ (columns : Columns). column_of c.args.field columns.ordinals) c.self.view_is)

pub returns-in-None : goal.returns-in-None
returns-in-None c =
    let it = c.self.inside in
    missing_kept nat_cmp (IsOrdinal) u64_text u64_at it.bytes.items it.ordinals c.args.field c.self.invariant.ordinals_kept c.in-None.ensures ∙ ap (λ (columns : Columns). column_of c.args.field columns.ordinals) c.self.view_is
