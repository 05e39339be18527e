use Rattle.engine.specs.View.{request_of}
use Rattle.engine.specs.declared.engine.Answered.TheVariants.{NoMemory, Refused, Written}
use Rattle.engine.proofs.Asking.{answers_to, cleared}
use Rattle.engine.proofs.engine.Engine.answer.Goals as goal

pub returns-in-Ok-Accepted-clause-answers : goal.returns-in-Ok-Accepted-clause-answers
returns-in-Ok-Accepted-clause-answers g c = λ state f.
    answers_to _ c.args.self.now c.reply.new.self state (request_of c.args.first c.args.second) Written c.reply.new.out.bytes c.args.steps.now c.reply.new.steps _ _ _ _ _ _ _ _ _ c.self.view_is f
    (rw c.in-Ok-Accepted.field-0-is at (c.in-Ok-Accepted.ensures.answers state)) (c.in-Ok-Accepted.ensures.few state)

pub returns-in-Ok-Refused-clause-answers : goal.returns-in-Ok-Refused-clause-answers
returns-in-Ok-Refused-clause-answers g c = λ state f.
    answers_to _ c.args.self.now c.reply.new.self state (request_of c.args.first c.args.second) Refused c.reply.new.out.bytes c.args.steps.now c.reply.new.steps _ _ _ _ _ _ _ _ _ c.self.view_is f
    (rw c.in-Ok-Refused.field-0-is at (c.in-Ok-Refused.ensures.answers state)) (c.in-Ok-Refused.ensures.few state)

pub returns-in-Err-clause-answers : goal.returns-in-Err-clause-answers
returns-in-Err-clause-answers g c = λ state f.
    answers_to _ c.args.self.now c.reply.new.self state (request_of c.args.first c.args.second) NoMemory c.clear.new.self.bytes c.args.steps.now c.reply.new.steps _ _ _ _ _ _ _ _ _ c.self.view_is f
    (λ f'. cleared _ state _ c.reply.new.out.bytes c.clear.new.self.bytes _ c.reply.new.self _ _ _ _ _ _ _ _ _ (c.in-Err.ensures.answers state f')) (c.in-Err.ensures.few state)
