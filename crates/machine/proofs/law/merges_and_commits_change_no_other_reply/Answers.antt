use Rattle.machine.proofs.Beside.{exchange_beside, may_unseen, run_beside}
use Rattle.machine.proofs.law.merges_and_commits_change_no_other_reply.Goals as goal

pub returns-clause-unseen : goal.returns-clause-unseen
returns-clause-unseen c = may_unseen

pub returns-clause-runs : goal.returns-clause-runs
returns-clause-runs c = run_beside

pub returns-clause-left_out : goal.returns-clause-left_out
returns-clause-left_out c = exchange_beside
