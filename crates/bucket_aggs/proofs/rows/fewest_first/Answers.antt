use Rattle.std.proofs.Common.{◌<◌, false, rules}
use Rattle.std.proofs.lemmas.List.Sorted.{answers_always}
use Rattle.query_ast.specs.Uses.{IsValueOf}
use Rattle.bucket_aggs.proofs.Placed.{by_count, counts_rank, sorted_is}
use Rattle.bucket_aggs.proofs.Weights.{each_permuted}
use Rattle.bucket_aggs.proofs.rows.fewest_first.Goals as goal

pub returns-clause-order : goal.returns-clause-order
returns-clause-order c =
    sorted_is c.rows_stand_in_order.ensures.only false c.args.rows.now.items c.sort_by.new.self.items
    (c.in_ok-sort_by.ensures.sorted (by_count false) (counts_rank false) (answers_always _ _ _ (λ f a r h called. search rules)))
    (c.in_ok-sort_by.ensures.stable (by_count false) (counts_rank false) (answers_always _ _ _ (λ f a r h called. search rules)))

pub returns-clause-keys : goal.returns-clause-keys
returns-clause-keys c = λ kind are. each_permuted (λ row. IsValueOf kind row.key × (0 < row.count)) c.args.rows.now.items c.sort_by.new.self.items c.in_ok-sort_by.ensures.permutation are
