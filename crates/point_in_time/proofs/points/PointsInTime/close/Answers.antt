use Rattle.std.proofs.Common.{List, ap, is_some, sym, subst, map, ◌∙◌}
use Rattle.point_in_time.specs.Points.{ArePoints, KeptPoint, KeptPoints, is_open, without_point, point_of}
use Rattle.point_in_time.proofs.Ids.{is_under, points_closed, taken_out}
use Rattle.point_in_time.proofs.points.PointsInTime.close.Goals as goal

pub invariant_of-self : goal.invariant_of-self
invariant_of-self c =
    let points = ap (map point_of) c.shift_remove.ensures.entries ∙ taken_out c.args.id c.self.inside.views.entries c.len-once.ensures.unique in
    subst (λ (points : List KeptPoint). ArePoints (record { points = points; opened = c.self.inside.opened })) (sym points)
    (points_closed c.args.id c.self.inside.opened (map point_of c.self.inside.views.entries) c.self.invariant)

pub returns-clause-was : goal.returns-clause-was
returns-clause-was c =
    c.is_some.ensures ∙ ap is_some c.shift_remove.ensures.value ∙ is_under c.args.id c.self.inside.views.entries
    ∙ ap (λ (kept : KeptPoints). is_open c.args.id kept.points) c.self.view_is

pub returns-clause-closed : goal.returns-clause-closed
returns-clause-closed c =
    let points = ap (map point_of) c.shift_remove.ensures.entries ∙ taken_out c.args.id c.self.inside.views.entries c.len-once.ensures.unique in
    ap (λ points. record { points = points; opened = c.self.inside.opened }) points ∙ ap (without_point c.args.id) c.self.view_is
