use Rattle.layout_ids.proofs.Items.{sealed_items, change_items, start_items, finish_items, force_items}
use Rattle.layout_ids.proofs.law.layouts_have_no_item_of_their_own.Goals as goal

pub returns-clause-sealed : goal.returns-clause-sealed
returns-clause-sealed g c = sealed_items

pub returns-clause-changed : goal.returns-clause-changed
returns-clause-changed g c = change_items

pub returns-clause-started : goal.returns-clause-started
returns-clause-started g c = start_items

pub returns-clause-finished : goal.returns-clause-finished
returns-clause-finished g c = finish_items

pub returns-clause-forced : goal.returns-clause-forced
returns-clause-forced g c = force_items
