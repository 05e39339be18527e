use Rattle.std.proofs.Common.{◌≡◌, ◌+◌, List, length, ap, sym, subst, map, ◌∙◌, arith}
use Rattle.point_in_time.specs.Points.{ArePoints, KeptPoint, KeptPoints, point_of, with_point}
use Rattle.indexmap.proofs.CallerLemmas.{insert_entry-new}
use Rattle.point_in_time.proofs.Ids.{not_yet, points_opened, put_next, room_for_one}
use Rattle.point_in_time.proofs.points.PointsInTime.open.Goals as goal

pub invariant_of-self-2 : goal.invariant_of-self-2
invariant_of-self-2 c =
    let none = not_yet c.self.inside.opened c.self.inside.views.entries c.self.invariant.ids in
    let points = put_next c.self.inside.opened c.args.view c.self.inside.views.entries c.insert.new.self.entries (c.in_ok-insert.ensures.entries ∙ insert_entry-new _ c.self.inside.views (c.self.inside.opened + 1) c.args.view none) in
    let count : length (map point_of c.self.inside.views.entries) ≡ length c.args.self.now.points = ap (λ (kept : KeptPoints). length kept.points) c.self.view_is in
    subst (λ (points : List KeptPoint). ArePoints (record { points = points; opened = c.self.inside.opened + 1 })) (sym points)
    (points_opened c.self.inside.opened c.args.view (map point_of c.self.inside.views.entries) c.self.invariant (omega (arith, count, room_for_one c.args.self.now (sym c.is_full.ensures ∙ c.if-is_full.false))))

pub returns-clause-opened : goal.returns-clause-opened
returns-clause-opened c =
    let none = not_yet c.self.inside.opened c.self.inside.views.entries c.self.invariant.ids in
    let points = put_next c.self.inside.opened c.args.view c.self.inside.views.entries c.insert.new.self.entries (c.in_ok-insert.ensures.entries ∙ insert_entry-new _ c.self.inside.views (c.self.inside.opened + 1) c.args.view none) in
    ap (λ points. record { points = points; opened = c.self.inside.opened + 1 }) points ∙ ap (with_point c.args.view) c.self.view_is
