use Rattle.std.proofs.Common.{refl}
use Rattle.machine.specs.Storing.{trim_step}
use Rattle.request_form.specs.Asked.{asks}
use Rattle.request_form.specs.Command as ask
use Rattle.engine.specs.Parts.{answered_of}
use Rattle.engine.proofs.Asking.{stored_answer, unmapped_answer, unmapped_sealed}
use Rattle.engine.proofs.engine.Engine.trim.Goals as goal

pub returns-in-Some-clause-answers : goal.returns-in-Some-clause-answers
returns-in-Some-clause-answers g c = λ state f.
    stored_answer _ c.args.self.now _ state c.in-Some.mapping (asks ask.trim) (answered_of c.trim.result) c.trim.new.out.bytes _ _ _ _ _ _ _ _ _ c.self.view_is f c.in-Some.is refl refl
    (λ limits limit. c.trim.ensures.answers limits state limit) c.self.invariant.limit

pub returns-in-None-clause-answers : goal.returns-in-None-clause-answers
returns-in-None-clause-answers g c = λ state f.
    unmapped_answer _ c.args.self.now state (asks ask.trim) c.refuse.result c.refuse.new.out.bytes _ _ _ _ _ c.self.view_is f c.in-None.is
    (λ none. unmapped_sealed state (trim_step) none) (λ none. tt) c.refuse.ensures.refused
