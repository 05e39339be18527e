use Rattle.std.proofs.Common.{◌<◌, sym, subst}
use Rattle.std.proofs.lemmas.List.Sorted.{IsPermutation-reverse}
use Rattle.query_ast.specs.Uses.{IsValueOf}
use Rattle.bucket_aggs.specs.Counts.{AreKeys}
use Rattle.bucket_aggs.proofs.Weights.{each_permuted}
use Rattle.bucket_aggs.proofs.rows.turn.Goals as goal

pub returns-clause-keys : goal.returns-clause-keys
returns-clause-keys c = λ kind are.
    let rows = c.args.rows.now.items in
    subst (AreKeys kind) (sym c.reverse.ensures.items) (each_permuted (λ row. IsValueOf kind row.key × (0 < row.count)) rows _ (IsPermutation-reverse rows) are)
