use Rattle.std.proofs.Common.{◌≡◌, drop}
use Rattle.std.specs.List.{list_any}
use Rattle.query_ast.specs.Joins.{step_joins}
use Rattle.query_ast.proofs.joins.some_step.Given as goal

abbrev pub invariant-chain : goal.invariant-chain
invariant-chain l = list_any step_joins (drop l.step-index l.chain) ≡ list_any step_joins l.chain
