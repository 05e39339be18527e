use Rattle.layout.proofs.MergesAs.{finished_keeps, forced_keeps}
use Rattle.layout.proofs.law.merges_keep_what_is_live.Goals as goal

pub returns-clause-finished : goal.returns-clause-finished
returns-clause-finished g c = finished_keeps

pub returns-clause-forced : goal.returns-clause-forced
returns-clause-forced g c = forced_keeps
