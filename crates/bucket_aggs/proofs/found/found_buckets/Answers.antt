use Rattle.query_eval.specs.Found.{score_by}
use Rattle.bucket_aggs.proofs.Rooted.{buckets_join, found_are}
use Rattle.bucket_aggs.proofs.found.found_buckets.Goals as goal

pub buckets-requires-clause-joined : goal.buckets-requires-clause-joined
buckets-requires-clause-joined g c = λ is. c.requires.joined (buckets_join c.args.search.now is)

pub buckets-requires-clause-long : goal.buckets-requires-clause-long
buckets-requires-clause-long g c = c.requires.found.long

pub returns-clause-replies : goal.returns-clause-replies
returns-clause-replies g c = λ trees stand live.
    let m = c.args.mapping.now in
    found_are m c.args.view.now c.args.search.now c.in_ok-buckets.field-0 (λ all. c.hits_are_objects.ensures.roots m all c.scope_count-scopes.ensures.is_mapping) (c.in_ok-buckets.ensures.replies (score_by m c.args.search.now.query) c.requires.found) trees stand live
