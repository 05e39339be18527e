use Rattle.std.proofs.Common.{refl, append_assoc}
use Rattle.made_load.specs.Sources.{source}
use Rattle.made_load.proofs.source.put_source.Goals as goal

pub returns-clause-bytes : goal.returns-clause-bytes
unfolding source
returns-clause-bytes c =
    simp (
      c.push_spare-3.ensures.bytes,
      c.put_offers.ensures.bytes,
      c.push_spare-2.ensures.bytes,
      c.put_number.ensures.bytes,
      c.push_spare.ensures.bytes,
      append_assoc,
    )
    refl
