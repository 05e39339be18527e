use Rattle.std.proofs.Common.{◌∙◌, ap}
use Rattle.segment_parts.specs.declared.columns.Columns.{Columns}
use Rattle.segment_parts.proofs.parts.Parts.sources.Goals as goal

pub returns : goal.returns
returns c = c.over.ensures _ (rw c.as_slice.ensures.value c.self.invariant.roots_kept) ∙ ap (λ (columns : Columns). columns.roots) c.self.view_is
