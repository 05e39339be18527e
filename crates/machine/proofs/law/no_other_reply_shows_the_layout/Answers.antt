use Rattle.machine.proofs.Beside.{commits_alike, may_alike, step_alike}
use Rattle.machine.proofs.law.no_other_reply_shows_the_layout.Goals as goal

pub returns-clause-reply : goal.returns-clause-reply
returns-clause-reply c = λ limits mine yours one other asked agree hides. (step_alike limits mine yours one other asked agree hides).reply

pub returns-clause-after : goal.returns-clause-after
returns-clause-after c = λ limits mine yours one other asked agree hides. (step_alike limits mine yours one other asked agree hides).state

pub returns-clause-may : goal.returns-clause-may
returns-clause-may c = may_alike

pub returns-clause-commits : goal.returns-clause-commits
returns-clause-commits c = commits_alike
