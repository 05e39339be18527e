use Rattle.std.proofs.Common.{◌≡◌, ◌++◌, ℕ, List, Ok, Err, Some, ap, inl, subst, sym, ◌∙◌}
use Rattle.layout_commands.specs.Ends.{IsMerged}
use Rattle.layout_commands.specs.declared.not_done.NotDone.{NotDone}
use Rattle.layout_commands.specs.declared.not_done.NotDone.TheVariants.{Refused}
use Rattle.machine.specs.Answer.{outcome_of}
use Rattle.machine.specs.Merging.{merge_step}
use Rattle.machine.specs.State.{sealed_state}
use Rattle.reply_text.specs.Text.{reply_text}
use Rattle.engine.specs.Parts.{Ends, Leaves, answered_of}
use Rattle.engine.specs.declared.engine.Answered.TheVariants.{NoMemory}
use Rattle.engine.specs.declared.reply.Ended.{Ended}
use Rattle.engine.proofs.Answering.{lacking_room}
use Rattle.engine.proofs.Leaving.{leaves_sealed}
use Rattle.engine.proofs.Merging.{merge_done, merge_leaves, merge_refused}
use Rattle.index_core.specs.Kept.{layout_kept}
use Rattle.engine.proofs.segments.merge_segments.Goals as goal

pub returns-in-Ok-clause-answers : goal.returns-in-Ok-clause-answers
returns-in-Ok-clause-answers c = λ state f.
    let text : c.tell.new.out.bytes ≡ reply_text c.in-Ok.reply = c.tell.ensures.text ∙ ap (λ (bytes : List ℕ). bytes ++ reply_text c.in-Ok.reply) (c.make_room.ensures.same ∙ c.requires.empty) in
    subst (λ (ends : Ended). Ends state (outcome_of state (merge_step c.args.command c.args.mapping.now (sealed_state state))) (answered_of (Ok ends)) c.tell.new.out.bytes (Some c.args.mapping.now) c.merge.new.index)
    (sym c.tell.ensures.accepted)
    (merge_done c.args.mapping.now c.args.command c.args.index.now c.merge.new.index state c.in-Ok.reply c.tell.new.out.bytes f c.merge.ensures.next c.in-Ok.ensures.merged text)

pub returns-in-Ok-clause-leaves : goal.returns-in-Ok-clause-leaves
returns-in-Ok-clause-leaves c =
    subst (λ (ends : Ended). Leaves (answered_of (Ok ends)) (Some c.args.mapping.now) (Some c.args.mapping.now) c.args.mapping.now c.args.index.now c.merge.new.index) (sym c.tell.ensures.accepted)
    (merge_leaves c.args.mapping.now c.args.command c.args.index.now c.merge.new.index c.in-Ok.reply c.requires.index c.merge.ensures.fits c.merge.ensures.objects c.in-Ok.ensures.merged)

pub returns-in-Err-Refused-clause-answers : goal.returns-in-Err-Refused-clause-answers
returns-in-Err-Refused-clause-answers c = λ state f.
    let merged : IsMerged c.args.command (Err (Refused c.in-Err-Refused.why)) c.args.index.now c.merge.new.index =
    subst (λ (it : NotDone). IsMerged c.args.command (Err it) c.args.index.now c.merge.new.index) c.in-Err-Refused.field-0-is c.in-Err-Refused.ensures.merged in
    merge_refused c.args.mapping.now c.args.command c.args.index.now c.merge.new.index state c.in-Err-Refused.why c.refuse.result c.refuse.new.out.bytes f merged.0 merged.1 c.refuse.ensures.refused

pub returns-in-Err-NoMemory-clause-answers : goal.returns-in-Err-NoMemory-clause-answers
returns-in-Err-NoMemory-clause-answers c = λ state f.
    lacking_room c.args.mapping.now c.args.index.now c.merge.new.index state _ c.make_room.new.out.bytes f c.merge.ensures.next (subst (λ (it : NotDone). IsMerged c.args.command (Err it) c.args.index.now c.merge.new.index) c.in-Err-NoMemory.field-0-is c.in-Err-NoMemory.ensures.merged)

pub returns-in-Err-NoMemory-clause-leaves : goal.returns-in-Err-NoMemory-clause-leaves
returns-in-Err-NoMemory-clause-leaves c =
    leaves_sealed NoMemory c.args.mapping.now c.args.index.now c.merge.new.index c.requires.index c.merge.ensures.fits c.merge.ensures.next c.merge.ensures.objects (subst (λ (it : NotDone). IsMerged c.args.command (Err it) c.args.index.now c.merge.new.index) c.in-Err-NoMemory.field-0-is c.in-Err-NoMemory.ensures.merged)

pub returns-in-Err-Refused-clause-leaves : goal.returns-in-Err-Refused-clause-leaves
returns-in-Err-Refused-clause-leaves c =
    let merged : IsMerged c.args.command (Err (Refused c.in-Err-Refused.why)) c.args.index.now c.merge.new.index =
    subst (λ (it : NotDone). IsMerged c.args.command (Err it) c.args.index.now c.merge.new.index) c.in-Err-Refused.field-0-is c.in-Err-Refused.ensures.merged in
    leaves_sealed _ c.args.mapping.now c.args.index.now c.merge.new.index c.requires.index c.merge.ensures.fits c.merge.ensures.next c.merge.ensures.objects (inl (ap layout_kept merged.1))
