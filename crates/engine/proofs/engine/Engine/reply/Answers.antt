use Rattle.std.proofs.Common.{◌≡◌, ℕ, List, Option, Result, ap, subst, sym, ◌∙◌}
use Rattle.line_reader.specs.View.{first_line_of, source_line_of}
use Rattle.machine.specs.State.{State}
use Rattle.machine.specs.Step.{refusal_formed}
use Rattle.reply_text.specs.declared.refusal.Refusal.{Refusal}
use Rattle.request_form.specs.Asked.{Asked, asked_of, asks, refused}
use Rattle.request_form.specs.Seen.{IsRefused, action_view}
use Rattle.request_form.specs.declared.refusal.FormRefusal.{FormRefusal}
use Rattle.engine.specs.Faithful.{IsFaithful}
use Rattle.engine.specs.Kept.{EngineState}
use Rattle.engine.specs.Parts.{AnswersAsked, IsRefusal, answered_of}
use Rattle.engine.specs.declared.no_memory.NoMemory as memory
use Rattle.engine.specs.declared.reply.Ended.{Ended}
use Rattle.engine.proofs.Asking.{action_answer, refusal_asked}
use Rattle.engine.proofs.engine.Engine.reply.Goals as goal

-- where lines are no request
refused_answer : (own before : EngineState) (state : State) (asked : Asked) (form : FormRefusal) (why : Refusal) (result : Result Ended memory.NoMemory) (out : List ℕ) (content' : Option (List ℕ))
    (image : List ℕ → Type 0) (moment : ℕ) (since : ℕ → List ℕ → Type 0) (faults : ℕ) → own ≡ before → IsFaithful before state → asked ≡ refused form → why ≡ refusal_formed form → IsRefusal why result out
    → AnswersAsked before.limits state asked (answered_of result) out before.stored own content' image image moment moment since since faults faults
refused_answer own before state asked form why result out content' image moment since faults same f is formed said =
    let f' = subst (λ (it : EngineState). IsFaithful it state) (sym same) f in
    subst (λ (it : EngineState). AnswersAsked it.limits state asked (answered_of result) out it.stored own content' image image moment moment since since faults faults) same
    (refusal_asked own.limits own state asked form why result out content' image moment since faults f' is formed said)

pub perform-requires-clause-formed : goal.perform-requires-clause-formed
perform-requires-clause-formed g c = record {
  writes = λ it e. c.writes_are_formed.ensures (first_line_of c.args.first) (source_line_of c.args.second) it (c.in-Ok.ensures.ok ∙ ap asks e);
  searches = λ body e. c.searches_are_formed.ensures (first_line_of c.args.first) (source_line_of c.args.second) body (c.in-Ok.ensures.ok ∙ ap asks e);
  forces = λ most e. c.merges_are_formed.ensures.forced (first_line_of c.args.first) (source_line_of c.args.second) most (c.in-Ok.ensures.ok ∙ ap asks e);
  factors = λ factor e. c.merges_are_formed.ensures.factor (first_line_of c.args.first) (source_line_of c.args.second) factor (c.in-Ok.ensures.ok ∙ ap asks e);
}

pub returns-in-Ok-clause-answers : goal.returns-in-Ok-clause-answers
returns-in-Ok-clause-answers g c = λ state f.
    action_answer _ c.args.self.now c.perform.new.self state _ (asks (action_view c.in-Ok.action)) (answered_of c.perform.result) c.perform.new.out.bytes _ _ _ _ _ _ _ _ _ c.self.view_is c.in-Ok.ensures.ok f
    (c.perform.ensures.answers state)

pub returns-in-Err-Refused-clause-answers : goal.returns-in-Err-Refused-clause-answers
returns-in-Err-Refused-clause-answers g c = λ state f.
    let asked = asked_of (first_line_of c.args.first) (source_line_of c.args.second) in
    refused_answer _ c.args.self.now state asked c.in-Err-Refused.why c.refusal_formed.result c.refuse.result c.refuse.new.out.bytes _ _ _ _ _ c.self.view_is f
    (subst (IsRefused asked) c.in-Err-Refused.field-0-is c.in-Err-Refused.ensures.refused) c.refusal_formed.ensures c.refuse.ensures.refused
