use Rattle.std.proofs.Common.{◌∙◌}
use Rattle.inner_hits.proofs.Numbers.{id_is}
use Rattle.inner_hits.proofs.pages.root_id.Goals as goal

pub returns : goal.returns
returns c = λ m bits trees stands.
    c.of.ensures ∙ c.in_ok-from_slice.ensures.items ∙ c.root_id.ensures ∙ id_is m c.args.segment.now bits trees c.args.doc c.root_of-root.result (c.root_of-root.ensures.root m bits trees stands)
