use Rattle.std.proofs.Common.{arith}
use Rattle.std.proofs.lemmas.Int.{ints}
use Rattle.nested_sort.proofs.Means.{middle_fits}
use Rattle.nested_sort.proofs.modes.mean_of_two.Goals as goal

pub returns : goal.returns
returns c = middle_fits c.args.low c.args.high _ c.floor_mean.result c.ranges.low c.ranges.high c.floor_mean.ensures.value (omega (arith, ints))
