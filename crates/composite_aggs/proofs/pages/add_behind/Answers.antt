use Rattle.std.proofs.Common.{map}
use Rattle.composite_aggs.specs.Kept.{bucket_of}
use Rattle.composite_aggs.proofs.Steps.{on_ok, placed_ascend}
use Rattle.composite_aggs.proofs.pages.add_behind.Goals as goal

pub returns-clause-ascending : goal.returns-clause-ascending
returns-clause-ascending c =
    on_ok c.add.result (placed_ascend (map (λ v. v.now) c.args.key.now) c.args.place c.args.size (map bucket_of c.args.kept.now.items) (map bucket_of c.add.new.kept.items) c.requires.ascending) c.add.ensures.kept
