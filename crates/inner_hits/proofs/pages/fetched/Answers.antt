use Rattle.std.proofs.Common.{◌++◌, ℕ, List, ap, ◌∙◌}
use Rattle.stored_sources.specs.Roots.{root_of}
use Rattle.stored_sources.specs.declared.root.Root.{Root}
use Rattle.inner_hits.proofs.Numbers.{source_is}
use Rattle.inner_hits.proofs.pages.fetched.Goals as goal

pub returns-clause-source : goal.returns-clause-source
returns-clause-source g c = λ m bits trees stands.
    let root = c.root_of.result in
    c.in_ok-fetch.ensures.source
    ∙ ap (λ (l : List ℕ). l ++ (root_of c.sources.result root).source) c.new-text.ensures.items
    ∙ ap (λ (roots : List Root). (root_of roots root).source) c.sources.ensures.roots
    ∙ source_is m c.args.segment.now bits trees c.args.doc root (c.root_of.ensures.root m bits trees stands)
