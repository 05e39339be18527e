use Rattle.std.proofs.Common.{◌≡◌, ◌++◌, map, drop, reverse}
use Rattle.composite_aggs.specs.Spread.{merged}
use Rattle.composite_aggs.specs.Kept.{bucket_of}
use Rattle.composite_aggs.proofs.between.among.Given as goal

abbrev pub invariant-loop-start : goal.invariant-loop-start
invariant-loop-start l =
    map bucket_of l.made.items ++ merged (drop l.start-index l.walk) (map bucket_of (reverse l.kept.items))
    ≡ merged l.walk (map bucket_of l.fn.kept.items)
