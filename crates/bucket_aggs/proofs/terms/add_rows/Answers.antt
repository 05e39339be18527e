use Rattle.std.proofs.Common.{refl}
use Rattle.bucket_aggs.proofs.Cuts.{found_none}
use Rattle.bucket_aggs.proofs.terms.add_rows.Goals as goal

pub returns-clause-found : goal.returns-clause-found
returns-clause-found c = found_none c.args.segment.now c.args.set.now c.args.entry c.args.found.now.items c.args.found.now.items refl
