use Rattle.std.proofs.Common.{map, refl}
use Rattle.std.specs.Prelude.{None}
use Rattle.composite_aggs.specs.Composite.{start_keys}
use Rattle.composite_aggs.specs.Kept.{bucket_of}
use Rattle.composite_aggs.specs.Rows.{date_keys}
use Rattle.composite_aggs.proofs.Gathered.{gathered_all}
use Rattle.composite_aggs.proofs.intervals.intervals_shown.Goals as goal

pub returns-clause-kept : goal.returns-clause-kept
returns-clause-kept c =
    gathered_all (date_keys c.args.interval) (start_keys c.args.interval) (λ q r. refl) None 10_001 c.loop-place.place c.args.rows.now (map bucket_of c.loop-place.kept.items) c.loop-place-test.false c.loop-place.invariant.0
