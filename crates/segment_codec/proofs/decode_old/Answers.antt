use Rattle.std.proofs.Common.{refl}
use Rattle.segment_codec.proofs.decode_old.Goals as goal

pub returns-in_default-clause-none : goal.returns-in_default-clause-none
returns-in_default-clause-none c = λ _.
    let never = rw c.in_default.is at c.in_ok-new.ensures.none in
    never refl
