use Rattle.layout.proofs.Images.{remade_as, sealed_as, change_as, live_items_as}
use Rattle.layout.proofs.law.layouts_are_alike.Goals as goal

pub returns-clause-remade : goal.returns-clause-remade
returns-clause-remade g c = remade_as

pub returns-clause-sealed : goal.returns-clause-sealed
returns-clause-sealed g c = sealed_as

pub returns-clause-changed : goal.returns-clause-changed
returns-clause-changed g c = change_as

pub returns-clause-live : goal.returns-clause-live
returns-clause-live g c = live_items_as
