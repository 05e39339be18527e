use Rattle.store_opening.proofs.Looking.{piece_of}
use Rattle.store_opening.proofs.Found.{segment_found}
use Rattle.store_opening.proofs.segments.read_segment.Goals as goal

pub returns-clause-segment : goal.returns-clause-segment
returns-clause-segment g c = λ file known.
    segment_found file c.args.old c.args.scope_count c.args.extent c.in_ok-segment_of.field-0 c.in-Some.bytes.items
    (piece_of (g.D.Disk.content c.args.disk.now) c.args.extent.at c.args.extent.len c.in_ok-bytes.field-0 c.in-Some.bytes c.in-Some.is
    c.in_ok-bytes.ensures.piece file known)
    c.in_ok-segment_of.ensures.segment
