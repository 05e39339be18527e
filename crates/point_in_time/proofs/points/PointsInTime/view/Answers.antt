use Rattle.std.proofs.Common.{ap, ◌∙◌}
use Rattle.point_in_time.specs.Points.{KeptPoints, entries_under}
use Rattle.point_in_time.proofs.Ids.{found_under}
use Rattle.point_in_time.proofs.points.PointsInTime.view.Goals as goal

pub returns : goal.returns
returns c =
    c.get.ensures.value ∙ found_under c.args.id c.self.inside.views.entries
    ∙ ap (λ (kept : KeptPoints). entries_under c.args.id kept.points) c.self.view_is
