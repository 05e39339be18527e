use Rattle.merge_policy.proofs.Passes.{settles_by_runs}
use Rattle.merge_policy.proofs.law.layouts_settle_by_runs.Goals as goal

pub returns : goal.returns
returns g c = settles_by_runs
