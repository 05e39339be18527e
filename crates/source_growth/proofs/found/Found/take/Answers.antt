use Rattle.source_growth.proofs.Puts.{found_entry, left_entries}
use Rattle.source_growth.proofs.found.Found.take.Goals as goal

pub returns-clause-form : goal.returns-clause-form
returns-clause-form c = rw (← c.self.view_is, c.remove.ensures.value) (found_entry c.self.inside.forms.entries c.args.name.now)

pub returns-clause-left : goal.returns-clause-left
returns-clause-left c = rw (← c.self.view_is) (left_entries c.self.inside.forms.entries c.remove.new.self.entries c.args.name.now c.len-ascending.ensures.ordered c.remove.ensures.entries)
