use Rattle.std.proofs.Common.{◌∙◌}
use Rattle.store_opening.proofs.Looking.{looked_on, reads_more}
use Rattle.store_opening.proofs.device.read_whole.Goals as goal

pub bytes-preserved : goal.bytes-preserved
bytes-preserved g c = (
  λ file known. reads_more file c.args.at c.bytes.done c.in_ok-count.count c.bytes.into c.read_behind.new.into (c.bytes.invariant.0 file known)
      (c.in_ok-count.ensures.bytes file (c.bytes.invariant.3 ∙ known)),
  c.in_ok-count.ensures.bound,
  c.read_behind.ensures.long ∙ c.bytes.invariant.2,
  c.in_ok-count.ensures.content ∙ c.bytes.invariant.3,
  looked_on c.bytes.invariant.4 c.read_behind.ensures.looked,
  c.in_ok-count.ensures.cause.0 ∙ c.bytes.invariant.5,
)
