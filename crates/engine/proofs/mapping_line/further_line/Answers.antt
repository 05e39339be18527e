use Rattle.std.proofs.Common.{◌++◌, ℕ, List, Err, Some, ap, inl, inr, refl, subst, sym, ◌∙◌}
use Rattle.machine.specs.MappingLine.{mapping_step}
use Rattle.machine.specs.State.{sealed_state}
use Rattle.mapping.specs.Growth.{HasFurtherBodies}
use Rattle.reply_text.specs.Text.{reply_text}
use Rattle.reply_text.specs.declared.reply.Reply.TheVariants.{Mapped}
use Rattle.tree_json.specs.View.{view}
use Rattle.engine.proofs.Answering.{refusal_ends}
use Rattle.engine.proofs.Leaving.{leaves_grown, leaves_same, leaves_sealed}
use Rattle.engine.proofs.Lines.{further_accepted, further_refused}
use Rattle.index_core.specs.Kept.{layout_kept}
use Rattle.engine.proofs.mapping_line.further_line.Goals as goal

pub returns-in_ok-seal-in-Ok-clause-answers : goal.returns-in_ok-seal-in-Ok-clause-answers
returns-in_ok-seal-in-Ok-clause-answers c = λ state f.
    further_accepted c.further_bodies_leave_blocks.ensures.same (view c.args.body.now) c.args.mapping.now c.settle.new.mapping c.args.index.now c.seal.new.self state c.write.new.out.bytes
    c.scope_count-scopes.ensures.is_mapping c.scope_count-scopes-in-Ok.ensures.is_mapping (c.in-Ok.ensures.later refl) f c.in_ok-seal-in-Ok.ensures.next c.in_ok-seal-in-Ok.ensures.sealed
    (c.in-Ok.ensures.accepted refl) (c.settle.ensures ∙ c.in-Ok.ensures.mapping) (c.in_ok-write-in-Ok.ensures.ok ∙ ap (λ (bytes : List ℕ). bytes ++ reply_text Mapped) c.requires.empty)

pub returns-in_ok-seal-in-Ok-clause-leaves : goal.returns-in_ok-seal-in-Ok-clause-leaves
returns-in_ok-seal-in-Ok-clause-leaves c =
    leaves_grown c.further_bodies_leave_blocks.ensures.segment c.further_bodies_leave_blocks.ensures.block c.args.mapping.now c.settle.new.mapping c.args.index.now c.seal.new.self
    c.scope_count-scopes.ensures.is_mapping c.scope_count-scopes-in-Ok.ensures.is_mapping
    (subst (HasFurtherBodies c.args.mapping.now) (sym (c.settle.ensures ∙ c.in-Ok.ensures.mapping)) (c.in-Ok.ensures.later refl))
    c.requires.index c.in_ok-seal-in-Ok.ensures.fits c.in_ok-seal-in-Ok.ensures.objects c.in_ok-seal-in-Ok.ensures.sealed

pub returns-in_ok-seal-in-Ok-clause-grows : goal.returns-in_ok-seal-in-Ok-clause-grows
returns-in_ok-seal-in-Ok-clause-grows c = inr (record {
  before = c.scope_count-scopes.ensures.is_mapping;
  after = c.scope_count-scopes-in-Ok.ensures.is_mapping;
  further = subst (HasFurtherBodies c.args.mapping.now) (sym (c.settle.ensures ∙ c.in-Ok.ensures.mapping)) (c.in-Ok.ensures.later refl);
})

pub returns-in-Err-Refused-clause-answers : goal.returns-in-Err-Refused-clause-answers
returns-in-Err-Refused-clause-answers c = λ state f.
    refusal_ends (Some c.args.mapping.now) c.args.index.now state (mapping_step (view c.args.body.now) (sealed_state state)) c.in-Err-Refused.why c.refuse.result c.refuse.new.out.bytes f
    (further_refused (view c.args.body.now) c.args.mapping.now c.args.index.now state c.in-Err-Refused.why f (c.in-Err-Refused.ensures.refused c.in-Err-Refused.why (ap Err c.in-Err-Refused.field-0-is)))
    c.refuse.ensures.refused

pub returns-in_err-write-in-Ok-clause-leaves : goal.returns-in_err-write-in-Ok-clause-leaves
returns-in_err-write-in-Ok-clause-leaves c = leaves_same _ c.args.mapping.now c.args.index.now c.requires.index

pub returns-in_err-seal-in-Ok-clause-leaves : goal.returns-in_err-seal-in-Ok-clause-leaves
returns-in_err-seal-in-Ok-clause-leaves c =
    leaves_sealed _ c.args.mapping.now c.args.index.now c.seal.new.self c.requires.index c.in_err-seal-in-Ok.ensures.fits c.in_err-seal-in-Ok.ensures.next c.in_err-seal-in-Ok.ensures.objects
    (inl (ap layout_kept c.in_err-seal-in-Ok.ensures.same))

pub returns-in-Err-Refused-clause-leaves : goal.returns-in-Err-Refused-clause-leaves
returns-in-Err-Refused-clause-leaves c = leaves_same _ c.args.mapping.now c.args.index.now c.requires.index

pub returns-in-Err-NoMemory-clause-leaves : goal.returns-in-Err-NoMemory-clause-leaves
returns-in-Err-NoMemory-clause-leaves c = leaves_same _ c.args.mapping.now c.args.index.now c.requires.index
