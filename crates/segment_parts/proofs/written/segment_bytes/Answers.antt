use Rattle.std.proofs.Common.{◌∙◌}
use Rattle.segment_parts.specs.Whole.{all_written}
use Rattle.segment_parts.proofs.written.segment_bytes.Goals as goal

pub returns : goal.returns
returns c =
    c.shrink_to_fit.ensures.items ∙
    all_written c.args.columns.now c.new-bytes.result.items c.put_head.new.into.items c.put_rows.new.into.items c.put_ordinals.new.into.items c.put_numbers.new.into.items c.put_present.new.into.items c.new-bytes.ensures.items
    c.in_ok-put_head.ensures c.in_ok-put_rows.ensures c.in_ok-put_ordinals.ensures c.in_ok-put_numbers.ensures (rw c.as_slice.ensures.columns at c.in_ok-put_present.ensures)
