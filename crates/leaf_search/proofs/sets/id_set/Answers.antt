use Rattle.std.specs.List.{list_any}
use Rattle.std.specs.Str.{bytes_eq}
use Rattle.segment.specs.Flat.{FlatRoot}
use Rattle.leaf_search.proofs.Finding.{roots_made, root_marks_long}
use Rattle.leaf_search.proofs.sets.id_set.Goals as goal

pub keep_live-requires-clause-long : goal.keep_live-requires-clause-long
keep_live-requires-clause-long c = root_marks_long c.args.segment.now (λ (r : FlatRoot). list_any (bytes_eq r.id) c.args.listed.now) c.in_ok-set.set c.in_ok-set.ensures

pub returns : goal.returns
returns c = roots_made c.args.segment.now c.args.live.now c.args.scope (λ (r : FlatRoot). list_any (bytes_eq r.id) c.args.listed.now) c.in_ok-set.set c.keep_live.new.set c.requires c.in_ok-set.ensures c.keep_live.ensures
