use Rattle.std.proofs.Common.{[], refl, subst, sym}
use Rattle.machine.specs.State.{sealed_state}
use Rattle.machine.specs.Storing.{AreSizes, commit_step}
use Rattle.request_form.specs.Asked.{asks}
use Rattle.request_form.specs.Command as ask
use Rattle.engine.specs.Parts.{answered_of}
use Rattle.engine.proofs.Asking.{stored_answer, unmapped_answer, unmapped_sealed}
use Rattle.engine.proofs.engine.Engine.commit.Goals as goal

pub returns-in-Some-clause-answers : goal.returns-in-Some-clause-answers
returns-in-Some-clause-answers g c = λ state f.
    stored_answer _ c.args.self.now _ state c.in-Some.mapping (asks ask.commit) (answered_of c.commit.result) c.commit.new.out.bytes _ _ _ _ _ _ _ _ _ c.self.view_is f c.in-Some.is refl refl
    (λ limits limit. c.commit.ensures.answers limits state limit) c.self.invariant.limit

pub returns-in-None-clause-answers : goal.returns-in-None-clause-answers
returns-in-None-clause-answers g c = λ state f.
    unmapped_answer _ c.args.self.now state (asks ask.commit) c.refuse.result c.refuse.new.out.bytes _ _ _ _ _ c.self.view_is f c.in-None.is
    (λ none. unmapped_sealed state (commit_step c.self.inside.limits []) none) (λ none. subst (λ own. AreSizes own (sealed_state state) []) (sym none) tt) c.refuse.ensures.refused
