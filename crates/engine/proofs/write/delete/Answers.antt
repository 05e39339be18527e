use Rattle.std.proofs.Common.{◌≡◌, ◌++◌, ℕ, List, Some, ap, refl, subst, sym, ◌∙◌}
use Rattle.machine.specs.Answer.{answers}
use Rattle.reply_text.specs.Text.{reply_text}
use Rattle.reply_text.specs.declared.reply.Reply.TheVariants.{NotFound, Written}
use Rattle.reply_text.specs.declared.reply.WriteResult.TheVariants.{Deleted}
use Rattle.index_core.specs.declared.op.WriteOp.TheVariants.{Take}
use Rattle.engine.specs.Parts.{IsChanged, delete_step}
use Rattle.engine.proofs.Answering.{acceptance_ends}
use Rattle.engine.proofs.Ending.{take_ends, take_leaves}
use Rattle.engine.proofs.Taking.{nothing_to_take}
use Rattle.engine.proofs.Leaving.{leaves_same}
use Rattle.engine.proofs.write.delete.Goals as goal

pub returns-in-None-clause-answers : goal.returns-in-None-clause-answers
returns-in-None-clause-answers c = λ limits state most f.
    acceptance_ends (Some c.args.mapping.now) c.args.index.now state (delete_step limits c.args.mapping.now c.args.id state) (NotFound c.of-id.result) c.accept.result c.accept.new.out.bytes f
    (nothing_to_take limits c.args.mapping.now c.args.id c.args.index.now state f (sym c.in-None.is ∙ c.requires.live) ∙ ap (λ (id : List ℕ). answers (NotFound id) state) (sym (c.of-id.ensures ∙ c.into_vec.ensures))) refl c.accept.ensures.accepted

pub returns-in_ok-write-in-Some-clause-answers : goal.returns-in_ok-write-in-Some-clause-answers
returns-in_ok-write-in-Some-clause-answers c = λ limits state most f.
    let text : c.write.new.out.bytes ≡ reply_text (Written c.args.id c.args.index.now.next Deleted) =
    c.in_ok-write-in-Some.ensures.ok ∙ ap (λ (bytes : List ℕ). bytes ++ reply_text c.written.result) c.requires.empty ∙ ap reply_text (c.written.ensures ∙ ap (λ n. Written c.args.id n Deleted) c.next.ensures.next) in
    take_ends limits c.args.mapping.now c.args.id c.args.index.now c.change.new.index state c.in-Some.field-0 c.change.result c.write.new.out.bytes c.change.new.out.bytes most f (sym c.in-Some.is ∙ c.requires.live)
    (subst (λ (own : List ℕ). IsChanged c.change.result (Take own) c.args.index.now c.change.new.index c.write.new.out.bytes c.change.new.out.bytes) (c.of-taken.ensures ∙ c.in_ok-to_vec-in-Some.ensures.items_if_clones_equal (λ x y same. same) ∙ c.as_slice.ensures.bytes) c.change.ensures.changed) text

pub returns-in_ok-write-in-Some-clause-leaves : goal.returns-in_ok-write-in-Some-clause-leaves
returns-in_ok-write-in-Some-clause-leaves c =
    take_leaves c.args.mapping.now c.args.id c.args.index.now c.change.new.index c.change.result c.write.new.out.bytes c.change.new.out.bytes c.requires.index
    (subst (λ (own : List ℕ). IsChanged c.change.result (Take own) c.args.index.now c.change.new.index c.write.new.out.bytes c.change.new.out.bytes) (c.of-taken.ensures ∙ c.in_ok-to_vec-in-Some.ensures.items_if_clones_equal (λ x y same. same) ∙ c.as_slice.ensures.bytes) c.change.ensures.changed) c.change.ensures.fits c.change.ensures.objects

pub returns-in_err-write-in-Some-clause-leaves : goal.returns-in_err-write-in-Some-clause-leaves
returns-in_err-write-in-Some-clause-leaves c = leaves_same _ c.args.mapping.now c.args.index.now c.requires.index

pub returns-in-None-clause-leaves : goal.returns-in-None-clause-leaves
returns-in-None-clause-leaves c = leaves_same _ c.args.mapping.now c.args.index.now c.requires.index
