use Rattle.std.proofs.Common.{ap, ◌∙◌}
use Rattle.point_in_time.specs.Points.{KeptPoints, is_open}
use Rattle.point_in_time.proofs.Ids.{is_under}
use Rattle.point_in_time.proofs.points.PointsInTime.is_open.Goals as goal

pub returns : goal.returns
returns c =
    c.contains_key.ensures ∙ is_under c.args.id c.self.inside.views.entries
    ∙ ap (λ (kept : KeptPoints). is_open c.args.id kept.points) c.self.view_is
