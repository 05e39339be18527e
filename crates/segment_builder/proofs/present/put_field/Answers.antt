use Rattle.segment_builder.proofs.Listed.{put_presence}
use Rattle.segment_builder.proofs.present.put_field.Goals as goal

pub returns : goal.returns
returns c = put_presence c.args.field c.count.result c.args.set.now c.args.into.now.items c.put_u32.new.into.items c.put_u32-2.new.into.items c.put_documents.new.into.items c.in_ok-put_u32.ensures.put c.in_ok-put_u32-2.ensures.put c.in_ok-put_documents.ensures c.count.ensures
