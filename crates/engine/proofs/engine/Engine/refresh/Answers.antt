use Rattle.std.proofs.Common.{subst, sym}
use Rattle.machine.specs.State.{sealed_state}
use Rattle.machine.specs.Step.{refresh_step}
use Rattle.engine.specs.Faithful.{IsFaithful}
use Rattle.engine.specs.Kept.{EngineState}
use Rattle.engine.specs.Parts.{answered_of}
use Rattle.engine.proofs.Asking.{under_answer}
use Rattle.engine.proofs.engine.Engine.refresh.Goals as goal

pub returns-in-Some-clause-answers : goal.returns-in-Some-clause-answers
returns-in-Some-clause-answers c = λ state f.
    let own = subst (λ (it : EngineState). IsFaithful it state) (sym c.self.view_is) f in
    under_answer _ c.self.inside.index state c.in-Some.mapping (λ m. refresh_step m (sealed_state state)) (answered_of c.refresh.result) c.refresh.new.out.bytes c.in-Some.is own.0 own.1 own.2 (c.refresh.ensures.answers state)
