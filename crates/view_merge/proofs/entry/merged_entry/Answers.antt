use Rattle.std.proofs.Common.{Option, IfSome, sym, subst}
use Rattle.flattener.specs.Fits.{SegmentFits}
use Rattle.segment_parts.specs.declared.columns.Columns.{Columns}
use Rattle.view_merge.proofs.entry.merged_entry.Goals as goal

pub returns-in_ok-alive_entry-in-Some-clause-fits : goal.returns-in_ok-alive_entry-in-Some-clause-fits
returns-in_ok-alive_entry-in-Some-clause-fits c = λ m fit.
    subst (SegmentFits m) (sym c.in_ok-alive_entry-in-Some.ensures.columns)
    (subst (λ (o : Option Columns). IfSome o (λ segment. SegmentFits m segment)) c.in-Some.is (c.in_ok-segment.ensures.fits m fit))
