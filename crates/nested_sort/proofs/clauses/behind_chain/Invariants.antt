use Rattle.std.proofs.Common.{◌≡◌, drop}
use Rattle.nested_sort.specs.Inside.{behind_chain}
use Rattle.nested_sort.proofs.clauses.behind_chain.Given as goal

abbrev pub invariant-steps : goal.invariant-steps
invariant-steps l = behind_chain (drop l.step-index l.chain) l.rest ≡ behind_chain l.chain l.filters
