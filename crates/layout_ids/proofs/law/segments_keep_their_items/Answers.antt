use Rattle.layout_ids.proofs.Keeping.{sealed_keeps, change_keeps, start_keeps, finish_keeps, force_keeps, keeps_left, keeps_both}
use Rattle.layout_ids.proofs.law.segments_keep_their_items.Goals as goal

pub returns-clause-sealed : goal.returns-clause-sealed
returns-clause-sealed g c = sealed_keeps

pub returns-clause-changed : goal.returns-clause-changed
returns-clause-changed g c = change_keeps

pub returns-clause-started : goal.returns-clause-started
returns-clause-started g c = start_keeps

pub returns-clause-finished : goal.returns-clause-finished
returns-clause-finished g c = finish_keeps

pub returns-clause-forced : goal.returns-clause-forced
returns-clause-forced g c = force_keeps

pub returns-clause-left : goal.returns-clause-left
returns-clause-left g c = keeps_left

pub returns-clause-both : goal.returns-clause-both
returns-clause-both g c = keeps_both
