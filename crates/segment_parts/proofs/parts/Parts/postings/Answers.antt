use Rattle.std.proofs.Common.{◌∙◌, ap}
use Rattle.segment_parts.specs.Lists.{postings_of}
use Rattle.segment_parts.proofs.parts.Parts.postings.Goals as goal

pub returns : goal.returns
returns c =
    let kept = c.self.invariant.terms_kept in
    c.leaping.ensures kept.at _ kept.end (rw c.as_slice.ensures.value kept.stand) ∙ ap postings_of c.self.view_is
