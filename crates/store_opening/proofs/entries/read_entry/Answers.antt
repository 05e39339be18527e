use Rattle.std.proofs.Common.{◌≡◌, ℕ, ◌<◌, List, length, All, sym, subst, arith}
use Rattle.store_opening.specs.Entries.{extent_in}
use Rattle.store_opening.specs.Segments.{HasSegment}
use Rattle.store_opening.proofs.Grown.{none_of}
use Rattle.store_opening.proofs.Numbered.{not_fitting, not_inside}
use Rattle.store_opening.proofs.entries.read_entry.Goals as goal

pub returns-in_err-segment-clause-damaged : goal.returns-in_err-segment-clause-damaged
returns-in_err-segment-clause-damaged g c = λ refused file entry known is stands.
    c.read_segment.ensures.damaged (grind (arith, refused, c.from_residual.ensures, c.in_err-segment.was)) file entry.columns known
    (subst (λ (n : ℕ). HasSegment c.args.old n (extent_in c.args.row.now) entry.columns file) (sym c.scope_count.ensures.count) stands)

pub returns-then-not-branch-clause-damaged : goal.returns-then-not-branch-clause-damaged
returns-then-not-branch-clause-damaged g c = λ refused file entry known is stands.
    not_fitting c.columns_are_read_once.ensures c.args.mapping.now c.args.old file c.args.id c.args.row.now c.in_ok-segment.segment entry
    (subst (λ (n : ℕ). HasSegment c.args.old n (extent_in c.args.row.now) c.in_ok-segment.segment file) c.scope_count.ensures.count (c.in_ok-segment.ensures.segment file known))
    (λ both. grind (arith, c.in_ok-fits.ensures.1 both, c.if-not-branch.true)) is stands

pub returns-in_default-clause-damaged : goal.returns-in_default-clause-damaged
returns-in_default-clause-damaged g c = λ refused file entry known is stands.
    not_inside c.columns_are_read_once.ensures c.args.mapping.now c.args.old file c.args.id c.args.row.now c.in_ok-segment.segment entry
    (subst (λ (n : ℕ). HasSegment c.args.old n (extent_in c.args.row.now) c.in_ok-segment.segment file) c.scope_count.ensures.count (c.in_ok-segment.ensures.segment file known))
    (λ all.
    c.in_ok-live.ensures.none (none_of c.in_ok-live.field-0 c.in_default.is)
    (subst (λ (dead : List ℕ). All (λ (root : ℕ). root < length c.in_ok-segment.segment.roots) dead) (sym c.as_slice.ensures) all))
    is stands
