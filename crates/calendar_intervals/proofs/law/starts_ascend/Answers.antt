use Rattle.calendar_intervals.proofs.InOrder.{ascend}
use Rattle.calendar_intervals.proofs.law.starts_ascend.Goals as goal

pub returns : goal.returns
returns c i = ascend i
