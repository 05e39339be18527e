use Rattle.std.proofs.Common.{sym, rules}
use Rattle.std.proofs.lemmas.Fn.{always_returns_same}
use Rattle.query_ast.specs.Compare.{value_cmp}
use Rattle.bucket_aggs.specs.declared.rows.CountRow.{CountRow}
use Rattle.bucket_aggs.proofs.Searched.{weighs_nothing, weighs_own}
use Rattle.bucket_aggs.proofs.at_once.count_of_key.Goals as goal

pub returns-in-Ok : goal.returns-in-Ok
returns-in-Ok c =
    let at = c.in-Ok.ensures.position (λ (row : CountRow). value_cmp row.key c.args.key.now) (always_returns_same _ _ _ (λ a r q k. search rules)) in
    sym (weighs_own c.args.key.now c.args.rows.now c.in-Ok.at c.index-rows-at.result c.requires c.in-Ok.ensures.bound (at c.index-rows-at.result))

pub returns-in-Err : goal.returns-in-Err
returns-in-Err c =
    let at = c.in-Err.ensures.position (λ (row : CountRow). value_cmp row.key c.args.key.now) (always_returns_same _ _ _ (λ a r q k. search rules)) in
    sym (weighs_nothing c.args.key.now c.args.rows.now c.in-Err.field-0 c.requires at)
