use Rattle.std.proofs.Common.{◌≡◌, length, min, arith}
use Rattle.store_text.specs.Header.{header_size}
use Rattle.store_opening.proofs.Fronts.{begins_read, len_known}
use Rattle.store_opening.proofs.header.read_header.Goals as goal

pub returns-clause-header : goal.returns-clause-header
returns-clause-header g c = λ file known.
    let len : c.args.file_len ≡ length file = len_known (g.D.Disk.content c.args.disk.now) file c.args.file_len known c.requires in
    let all : length c.read_whole.new.into ≡ min (length file) header_size
    = grind (arith, len, c.read_whole.ensures.long, c.split_at_mut-front.ensures.front_len, c.min.ensures) in
    begins_read file c.read_whole.new.into c.in_ok-header_in.field-0 c.in_ok-read_whole.field-0 (grind (arith, c.if-not-branch.false)) all
    (c.in_ok-read_whole.ensures.bytes file known) c.in_ok-header_in.ensures.header
