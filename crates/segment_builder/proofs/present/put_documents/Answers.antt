use Rattle.std.proofs.Common.{sym, ◌++◌}
use Rattle.std.specs.List.{flat_map}
use Rattle.part_text.specs.Text.{u32_text}
use Rattle.segment_parts.specs.Text.{marked_places}
use Rattle.segment_builder.proofs.Listed.{put_more, put_all}
use Rattle.segment_builder.proofs.present.put_documents.Goals as goal

pub documents-preserved : goal.documents-preserved
documents-preserved c = put_more c.args.set.now c.documents.from c.in-Some.document c.documents.into.items c.put_u32.new.into.items (c.args.into.now.items ++ flat_map u32_text (marked_places 0 c.args.set.now)) c.documents.invariant (sym c.in-Some.ensures.value) c.in_ok-put_u32.ensures.put

pub returns : goal.returns
returns c = put_all c.args.set.now c.documents.from c.documents.into.items (c.args.into.now.items ++ flat_map u32_text (marked_places 0 c.args.set.now)) c.documents.invariant (sym c.in_default.ensures.value)
