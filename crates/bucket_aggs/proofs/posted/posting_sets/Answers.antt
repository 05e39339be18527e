use Rattle.std.proofs.Common.{rules}
use Rattle.bucket_aggs.proofs.Cuts.{found_join}
use Rattle.bucket_aggs.proofs.posted.posting_sets.Goals as goal

pub terms-preserved : goal.terms-preserved
terms-preserved c = (
  search rules,
  search rules,
  search rules,
  found_join c.args.segment.now c.args.set.now c.args.entry c.args.found.now.items c.terms.found.items c.keep_set.new.found.items c.terms.invariant.3 c.in_ok-count.ensures.found,
)
