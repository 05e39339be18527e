use Rattle.std.proofs.Common.{◌≡◌, ◌++◌, ℕ, List, Ok, Err, Some, ap, inr, subst, sym, ◌∙◌}
use Rattle.layout_commands.specs.Ends.{IsClosed, IsLacking}
use Rattle.layout_commands.specs.declared.not_done.NotDone.{NotDone}
use Rattle.layout_commands.specs.declared.not_done.NotDone.TheVariants.{Refused}
use Rattle.machine.specs.Answer.{outcome_of}
use Rattle.machine.specs.Points.{close_step}
use Rattle.machine.specs.State.{sealed_state}
use Rattle.reply_text.specs.Text.{reply_text}
use Rattle.reply_text.specs.declared.refusal.Refusal.TheVariants.{UnknownPit}
use Rattle.engine.specs.Kept.{PointsFit}
use Rattle.engine.specs.Parts.{EndsWith, Leaves, answered_of}
use Rattle.engine.specs.declared.engine.Answered.TheVariants.{NoMemory, Written}
use Rattle.engine.specs.declared.reply.Ended.{Ended}
use Rattle.engine.proofs.Answering.{left}
use Rattle.engine.proofs.Leaving.{leaves_sealed}
use Rattle.engine.proofs.Opening.{close_ends, close_refused, ends_with, lacking_with, refusal_with}
use Rattle.engine.proofs.Pointing.{fit_closed}
use Rattle.engine.proofs.points.close_pit.Goals as goal

pub returns-in_err-make_room-clause-answers : goal.returns-in_err-make_room-clause-answers
returns-in_err-make_room-clause-answers c = λ state f stand.
    ends_with (Some c.args.mapping.now) c.args.index.now c.args.points.now state _ _ _ stand
    (left _ (Some c.args.mapping.now) c.args.index.now state _ _ c.from_residual.result c.from_residual.ensures.1 f)

pub returns-in-Ok-clause-answers : goal.returns-in-Ok-clause-answers
returns-in-Ok-clause-answers c = λ state f stand.
    let text : c.tell.new.out.bytes ≡ reply_text c.in-Ok.reply = c.tell.ensures.text ∙ ap (λ (bytes : List ℕ). bytes ++ reply_text c.in-Ok.reply) (c.make_room.ensures.same ∙ c.requires.empty) in
    subst (λ (ends : Ended). EndsWith state (outcome_of state (close_step c.args.id c.args.mapping.now (sealed_state state))) (answered_of (Ok ends)) c.tell.new.out.bytes (Some c.args.mapping.now) c.close_point.new.index c.close_point.new.points)
    (sym c.tell.ensures.accepted)
    (close_ends c.args.mapping.now c.args.id c.args.index.now c.close_point.new.index c.args.points.now c.close_point.new.points state c.in-Ok.reply c.tell.new.out.bytes f stand c.close_point.ensures.next c.in-Ok.ensures.closed text)

pub returns-in-Ok-clause-leaves : goal.returns-in-Ok-clause-leaves
returns-in-Ok-clause-leaves c =
    subst (λ (ends : Ended). Leaves (answered_of (Ok ends)) (Some c.args.mapping.now) (Some c.args.mapping.now) c.args.mapping.now c.args.index.now c.close_point.new.index) (sym c.tell.ensures.accepted)
    (leaves_sealed Written c.args.mapping.now c.args.index.now c.close_point.new.index c.requires.index c.close_point.ensures.fits c.close_point.ensures.next c.close_point.ensures.objects (inr c.in-Ok.ensures.closed.layout))

pub returns-in-Ok-clause-fit : goal.returns-in-Ok-clause-fit
returns-in-Ok-clause-fit c =
    subst (PointsFit c.args.mapping.now) (sym c.in-Ok.ensures.closed.points_are)
    (fit_closed c.args.mapping.now c.args.id c.args.points.now c.requires.fit)

pub returns-in-Err-Refused-clause-answers : goal.returns-in-Err-Refused-clause-answers
returns-in-Err-Refused-clause-answers c = λ state f stand.
    let refused : IsClosed c.args.id (Err (Refused c.in-Err-Refused.why)) c.args.index.now c.close_point.new.index c.args.points.now c.close_point.new.points =
    subst (λ (it : NotDone). IsClosed c.args.id (Err it) c.args.index.now c.close_point.new.index c.args.points.now c.close_point.new.points) c.in-Err-Refused.field-0-is c.in-Err-Refused.ensures.closed in
    refusal_with c.args.mapping.now c.args.index.now c.close_point.new.index c.args.points.now c.close_point.new.points state (close_step c.args.id c.args.mapping.now (sealed_state state)) UnknownPit c.in-Err-Refused.why c.refuse.result
    c.refuse.new.out.bytes f stand refused.2 refused.3 refused.1 (close_refused c.args.mapping.now c.args.id c.args.points.now state stand refused.0) c.refuse.ensures.refused

pub returns-in-Err-NoMemory-clause-answers : goal.returns-in-Err-NoMemory-clause-answers
returns-in-Err-NoMemory-clause-answers c = λ state f stand.
    lacking_with c.args.mapping.now c.args.index.now c.close_point.new.index c.args.points.now c.close_point.new.points state _ c.make_room.new.out.bytes f stand c.close_point.ensures.next
    (subst (λ (it : NotDone). IsClosed c.args.id (Err it) c.args.index.now c.close_point.new.index c.args.points.now c.close_point.new.points) c.in-Err-NoMemory.field-0-is c.in-Err-NoMemory.ensures.closed)

pub returns-in-Err-NoMemory-clause-leaves : goal.returns-in-Err-NoMemory-clause-leaves
returns-in-Err-NoMemory-clause-leaves c =
    let lacking : IsLacking c.args.index.now c.close_point.new.index c.args.points.now c.close_point.new.points =
    subst (λ (it : NotDone). IsClosed c.args.id (Err it) c.args.index.now c.close_point.new.index c.args.points.now c.close_point.new.points) c.in-Err-NoMemory.field-0-is c.in-Err-NoMemory.ensures.closed in
    leaves_sealed NoMemory c.args.mapping.now c.args.index.now c.close_point.new.index c.requires.index c.close_point.ensures.fits c.close_point.ensures.next c.close_point.ensures.objects lacking.layout
