use Rattle.std.proofs.Common.{◌∙◌, ap, replicate, true}
use Rattle.segment.proofs.Deaths.{over-made}
use Rattle.segment.proofs.live_bits.LiveBits.all.Goals as goal

pub returns-clause-over : goal.returns-clause-over
returns-clause-over c =
    over-made _ _ _ c.docs.ensures.agree
    (c.in_ok-docs.ensures ∙ ap (λ n. replicate n true) c.docs.ensures.documents)
    (c.in_ok-roots.ensures ∙ ap (λ n. replicate n true) c.roots.ensures.roots)
