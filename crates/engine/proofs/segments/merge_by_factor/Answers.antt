use Rattle.std.proofs.Common.{◌≡◌, ◌++◌, ℕ, List, Ok, Some, unwrap_or, ap, subst, sym, ◌∙◌}
use Rattle.index_core.specs.Kept.{layout_kept}
use Rattle.layout.specs.Layout.{sealed}
use Rattle.layout.specs.Merges.{factor_of, with_factor}
use Rattle.machine.specs.Answer.{outcome_of}
use Rattle.machine.specs.Merging.{automerge_step}
use Rattle.reply_text.specs.Text.{reply_text}
use Rattle.reply_text.specs.declared.reply.Reply.TheVariants.{AutoMerge}
use Rattle.engine.specs.Parts.{Ends, Leaves, answered_of}
use Rattle.engine.specs.declared.reply.Ended.{Ended}
use Rattle.engine.proofs.Merging.{factor_done, factor_leaves}
use Rattle.engine.proofs.segments.merge_by_factor.Goals as goal

pub returns-clause-answers : goal.returns-clause-answers
returns-clause-answers c = λ state f.
    let number : c.unwrap_or.result ≡ unwrap_or c.args.factor 0 = c.unwrap_or.ensures in
    let text : c.tell.new.out.bytes ≡ reply_text (AutoMerge (unwrap_or c.args.factor 0)) =
    c.tell.ensures.text ∙ ap (λ (bytes : List ℕ). bytes ++ reply_text c.in_ok-reply.reply) (c.make_room.ensures.same ∙ c.requires.empty) ∙ ap reply_text (c.in_ok-reply.ensures.reply ∙ ap AutoMerge number) in
    subst (λ (ends : Ended). Ends state (outcome_of state (automerge_step c.args.factor c.args.mapping.now state)) (answered_of (Ok ends)) c.tell.new.out.bytes (Some c.args.mapping.now) c.automerge.new.index)
    (sym c.tell.ensures.accepted)
    (factor_done c.args.mapping.now c.args.factor c.args.index.now c.automerge.new.index state c.tell.new.out.bytes c.requires.factor f c.automerge.ensures.next
    (c.in_ok-reply.ensures.layout ∙ ap (λ (n : ℕ). sealed (with_factor (factor_of n) (layout_kept c.args.index.now))) number) text)

pub returns-clause-leaves : goal.returns-clause-leaves
returns-clause-leaves c =
    subst (λ (ends : Ended). Leaves (answered_of (Ok ends)) (Some c.args.mapping.now) (Some c.args.mapping.now) c.args.mapping.now c.args.index.now c.automerge.new.index) (sym c.tell.ensures.accepted)
    (factor_leaves c.args.mapping.now (factor_of c.unwrap_or.result) c.args.index.now c.automerge.new.index c.requires.index c.automerge.ensures.fits c.automerge.ensures.objects c.in_ok-reply.ensures.layout)
