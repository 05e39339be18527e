use Rattle.layout.proofs.MergesAs.{start_fault_as, force_fault_as, with_merge_as, finished_as, forced_as, summaries_as}
use Rattle.layout.proofs.law.merges_are_alike.Goals as goal

pub returns-clause-start : goal.returns-clause-start
returns-clause-start g c = start_fault_as

pub returns-clause-force : goal.returns-clause-force
returns-clause-force g c = force_fault_as

pub returns-clause-started : goal.returns-clause-started
returns-clause-started g c = with_merge_as

pub returns-clause-finished : goal.returns-clause-finished
returns-clause-finished g c = finished_as

pub returns-clause-forced : goal.returns-clause-forced
returns-clause-forced g c = forced_as

pub returns-clause-rows : goal.returns-clause-rows
returns-clause-rows g c = summaries_as
