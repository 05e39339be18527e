use Rattle.std.proofs.Common.{◌≡◌, ◌<◌, ◌↔◌, ℕ, List, length, Contains, ap, subst, ◌∙◌}
use Rattle.stored_sources.specs.declared.root.Root.{Root}
use Rattle.stored_sources.specs.Roots.{root_of}
use Rattle.segment_parts.specs.declared.columns.Columns.{Columns}
use Rattle.segment.proofs.segment.Segment.roots_of_id.Goals as goal

pub returns : goal.returns
returns c =
    subst (λ (roots : List Root). (root : ℕ) → Contains c.roots_of_id.result.now root ↔ ((root < length roots) × ((root_of roots root).id ≡ c.args.id.now)))
    (c.sources.ensures ∙ ap (λ (columns : Columns). columns.roots) c.self.view_is) c.roots_of_id.ensures
