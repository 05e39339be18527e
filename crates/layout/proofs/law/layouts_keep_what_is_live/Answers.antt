use Rattle.layout.proofs.Keeps.{remade_keeps, sealed_keeps, change_keeps}
use Rattle.layout.proofs.law.layouts_keep_what_is_live.Goals as goal

pub returns-clause-remade : goal.returns-clause-remade
returns-clause-remade g c = remade_keeps

pub returns-clause-sealed : goal.returns-clause-sealed
returns-clause-sealed g c = sealed_keeps

pub returns-clause-changed : goal.returns-clause-changed
returns-clause-changed g c = change_keeps
