use Rattle.store_opening.proofs.Looking.{piece_of}
use Rattle.store_opening.proofs.Found.{record_of, record_found}
use Rattle.store_opening.proofs.record.read_record_at.Goals as goal

pub returns-in-Some-2-clause-record : goal.returns-in-Some-2-clause-record
returns-in-Some-2-clause-record g c = λ file known.
    record_found file c.args.at c.args.len c.in-Some.bytes.items c.as_slice.result.now c.in-Some-2.it
    (piece_of (g.D.Disk.content c.args.disk.now) c.args.at c.args.len c.in_ok-bytes.field-0 c.in-Some.bytes c.in-Some.is c.in_ok-bytes.ensures.piece file known)
    c.as_slice.ensures.value
    (record_of c.as_slice.result.now c.in_ok-it.field-0 c.in-Some-2.it c.in-Some-2.is c.in_ok-it.ensures.found)
