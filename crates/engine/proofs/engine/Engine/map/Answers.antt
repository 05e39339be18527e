use Rattle.std.proofs.Common.{subst, sym}
use Rattle.engine.specs.Faithful.{IsFaithful}
use Rattle.engine.specs.Kept.{EngineState}
use Rattle.engine.specs.Parts.{answered_of}
use Rattle.engine.proofs.Asking.{grown_answer}
use Rattle.engine.proofs.engine.Engine.map.Goals as goal

pub returns-clause-answers : goal.returns-clause-answers
returns-clause-answers c = λ state f.
    let own = subst (λ (it : EngineState). IsFaithful it state) (sym c.self.view_is) f in
    grown_answer c.further_bodies_leave_blocks.ensures.same _ c.self.inside.mapping state _ (answered_of c.mapping_line.result) c.mapping_line.new.out.bytes c.mapping_line.ensures.grows own.1 own.2
    (c.mapping_line.ensures.answers state own.0)
