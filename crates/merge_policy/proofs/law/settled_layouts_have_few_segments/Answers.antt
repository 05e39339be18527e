use Rattle.merge_policy.proofs.Bounds.{sealed_few}
use Rattle.merge_policy.proofs.law.settled_layouts_have_few_segments.Goals as goal

pub returns : goal.returns
returns g c = sealed_few
