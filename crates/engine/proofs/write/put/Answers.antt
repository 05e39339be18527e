use Rattle.std.proofs.Common.{◌≡◌, ◌++◌, ℕ, List, Err, Some, None, ap, refl, subst, ◌∙◌}
use Rattle.tree_json.specs.View.{view}
use Rattle.machine.specs.Answer.{first_of}
use Rattle.machine.specs.Write.{added_body, put_result, put_source}
use Rattle.reply_text.specs.Text.{reply_text}
use Rattle.reply_text.specs.declared.reply.Reply.TheVariants.{Written}
use Rattle.write_plan.specs.Planned.{IsPlanned, refusals_of}
use Rattle.reply_text.specs.declared.refusal.Refusal.{Refusal}
use Rattle.engine.specs.Parts.{IsRefusal}
use Rattle.engine.proofs.Answering.{refusal_ends}
use Rattle.engine.proofs.Ending.{planned_next_to, put_ends, put_grows, put_leaves}
use Rattle.engine.proofs.Writing.{put_refused}
use Rattle.engine.proofs.Leaving.{leaves_same}
use Rattle.engine.proofs.write.put.Goals as goal

pub put_planned-requires-clause-next : goal.put_planned-requires-clause-next
put_planned-requires-clause-next c =
    planned_next_to c.args.mapping.now c.as_slice.result.now (view c.args.source.now) c.args.index.now.next c.in-Ok.plan
    (subst (λ (n : ℕ). IsPlanned c.args.mapping.now c.as_slice.result.now (view c.args.source.now) n c.in-Ok.plan) c.next.ensures.next c.in-Ok.ensures.planned)

pub returns-in-Ok-clause-answers : goal.returns-in-Ok-clause-answers
returns-in-Ok-clause-answers c = λ limits state tree most f number.
    let p : IsPlanned c.args.mapping.now c.args.id (view c.args.source.now) c.args.index.now.next c.in-Ok.plan =
    subst (λ (own : List ℕ). IsPlanned c.args.mapping.now own (view c.args.source.now) c.args.index.now.next c.in-Ok.plan) c.as_slice.ensures.bytes
    (subst (λ (n : ℕ). IsPlanned c.args.mapping.now c.as_slice.result.now (view c.args.source.now) n c.in-Ok.plan) c.next.ensures.next c.in-Ok.ensures.planned) in
    let first : first_of (refusals_of c.args.mapping.now c.args.id (view c.args.source.now) c.args.index.now.next) ≡ None =
    subst (λ (own : List ℕ). first_of (refusals_of c.args.mapping.now own (view c.args.source.now) c.args.index.now.next) ≡ None) c.as_slice.ensures.bytes
    (subst (λ (n : ℕ). first_of (refusals_of c.args.mapping.now c.as_slice.result.now (view c.args.source.now) n) ≡ None) c.next.ensures.next (c.in-Ok.ensures.accepted refl)) in
    let reply : c.written.result ≡ Written c.args.id c.args.index.now.next (put_result tree) =
    c.written.ensures ∙ (λ i. Written c.args.id (c.next-in-Ok.ensures.next i) (c.put_result.ensures tree number i)) in
    let text : c.write.new.out.bytes ≡ reply_text (Written c.args.id c.args.index.now.next (put_result tree)) =
    c.in_ok-write-in-Ok.ensures.ok ∙ ap (λ (bytes : List ℕ). bytes ++ reply_text c.written.result) c.requires.empty ∙ ap reply_text reply in
    put_ends c.further_bodies_leave_blocks.ensures.same limits c.args.mapping.now c.put_planned.new.mapping c.args.id (view c.args.source.now) c.in-Ok.plan tree c.args.index.now c.put_planned.new.index state
    c.put_planned.result c.write.new.out.bytes c.put_planned.new.out.bytes c.scope_count-scopes.ensures.is_mapping most f p first c.put_planned.ensures.changed c.put_planned.ensures.mapping text

pub returns-in-Ok-clause-leaves : goal.returns-in-Ok-clause-leaves
returns-in-Ok-clause-leaves c =
    put_leaves c.args.mapping.now c.put_planned.new.mapping c.as_slice.result.now (view c.args.source.now) c.in-Ok.plan c.args.index.now c.put_planned.new.index c.put_planned.result c.write.new.out.bytes
    c.put_planned.new.out.bytes c.scope_count-scopes.ensures.is_mapping c.requires.index
    (subst (λ (n : ℕ). IsPlanned c.args.mapping.now c.as_slice.result.now (view c.args.source.now) n c.in-Ok.plan) c.next.ensures.next c.in-Ok.ensures.planned) c.put_planned.ensures.changed
    c.put_planned.ensures.mapping c.put_planned.ensures.fits c.put_planned.ensures.objects

pub returns-in-Ok-clause-grows : goal.returns-in-Ok-clause-grows
returns-in-Ok-clause-grows c =
    put_grows c.args.mapping.now c.put_planned.new.mapping c.as_slice.result.now (view c.args.source.now) c.next.result c.in-Ok.plan c.put_planned.result c.scope_count-scopes.ensures.is_mapping
    c.in-Ok.ensures.planned c.put_planned.ensures.mapping

pub returns-in-Err-Refused-clause-answers : goal.returns-in-Err-Refused-clause-answers
returns-in-Err-Refused-clause-answers c = λ limits state tree most f number.
    let first : first_of (refusals_of c.args.mapping.now c.args.id (view c.args.source.now) c.args.index.now.next) ≡ Some c.in-Err-Refused.why =
    subst (λ (own : List ℕ). first_of (refusals_of c.args.mapping.now own (view c.args.source.now) c.args.index.now.next) ≡ Some c.in-Err-Refused.why) c.as_slice.ensures.bytes
    (subst (λ (n : ℕ). first_of (refusals_of c.args.mapping.now c.as_slice.result.now (view c.args.source.now) n) ≡ Some c.in-Err-Refused.why) c.next.ensures.next
    (c.in-Err-Refused.ensures.refused c.in-Err-Refused.why (ap Err c.in-Err-Refused.field-0-is))) in
    refusal_ends (Some c.args.mapping.now) c.args.index.now state (put_source limits c.args.mapping.now c.args.id (view c.args.source.now) (added_body c.args.mapping.now (view c.args.source.now)) tree state)
    c.in-Err-Refused.why c.refuse.result c.refuse.new.out.bytes f (put_refused limits c.args.mapping.now c.args.id (view c.args.source.now) tree c.args.index.now state c.in-Err-Refused.why f first)
    (subst (λ (w : Refusal). IsRefusal w c.refuse.result c.refuse.new.out.bytes) c.in-Err-Refused.why-is c.refuse.ensures.refused)

pub returns-in_err-write-in-Ok-clause-leaves : goal.returns-in_err-write-in-Ok-clause-leaves
returns-in_err-write-in-Ok-clause-leaves c = leaves_same _ c.args.mapping.now c.args.index.now c.requires.index

pub returns-in-Err-Refused-clause-leaves : goal.returns-in-Err-Refused-clause-leaves
returns-in-Err-Refused-clause-leaves c = leaves_same _ c.args.mapping.now c.args.index.now c.requires.index

pub returns-clause-leaves : goal.returns-clause-leaves
returns-clause-leaves c = leaves_same _ c.args.mapping.now c.args.index.now c.requires.index
