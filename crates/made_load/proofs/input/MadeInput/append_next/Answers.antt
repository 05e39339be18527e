use Rattle.std.proofs.Common.{sym}
use Rattle.made_load.proofs.Handed.{handed_mapping, handed_change}
use Rattle.made_load.proofs.input.MadeInput.append_next.Goals as goal

pub returns-in_ok-reserve-in-Mapping-clause-given : goal.returns-in_ok-reserve-in-Mapping-clause-given
returns-in_ok-reserve-in-Mapping-clause-given c =
    λ _. handed_mapping c.self.inside.part c.self.inside.document c.self.inside.count c.self.inside.draws.state _ _ _ _ (sym c.self.view_is)
    c.in-Mapping.is c.reserve.ensures.same c.put_mapping.ensures.bytes

pub returns-then-self-clause-given : goal.returns-then-self-clause-given
returns-then-self-clause-given c =
    λ _. handed_change c.self.inside.part c.self.inside.document c.self.inside.count c.self.inside.draws.state _ _ _ _ _ _ (sym c.self.view_is)
    c.in-Changes.is c.if-self.true c.put_change.ensures.state c.reserve-in-Changes.ensures.same c.put_change.ensures.bytes c.put_pauses.ensures.bytes
