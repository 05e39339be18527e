use Rattle.std.proofs.Common.{ℕ, List, Some, ap, option_map, subst, sym, ◌∙◌}
use Rattle.index_core.specs.Kept.{block_number, live_block}
use Rattle.machine.specs.Answer.{Answer, outcome_of}
use Rattle.machine.specs.Write.{change_or_nothing, live_tree, write_step}
use Rattle.request_form.specs.Seen.{write_view}
use Rattle.request_form.specs.declared.action.Operation.{Operation}
use Rattle.engine.specs.Parts.{Ends, answered_of}
use Rattle.engine.proofs.Answering.{refusal_ends}
use Rattle.engine.proofs.Writing.{early_step, not_early, number_live}
use Rattle.engine.proofs.Leaving.{leaves_same}
use Rattle.engine.proofs.write.write_tree.Goals as goal

pub returns-in-Some-clause-answers : goal.returns-in-Some-clause-answers
returns-in-Some-clause-answers g c = λ limits state most f.
    let live = c.live-live.ensures ∙ ap (λ (id : List ℕ). option_map block_number (live_block id c.args.index.now)) c.as_slice.ensures.bytes in
    refusal_ends (Some c.args.mapping.now) c.args.index.now state (write_step limits c.args.mapping.now (write_view c.args.it) state) c.in-Some.why c.refuse.result c.refuse.new.out.bytes f
    (early_step limits c.args.mapping.now (write_view c.args.it) c.args.index.now state c.live-live.result c.in-Some.why f live (sym c.in-Some.is ∙ c.early_refusal.ensures)) c.refuse.ensures.refused

pub returns-in-Index-clause-answers : goal.returns-in-Index-clause-answers
returns-in-Index-clause-answers g c = λ limits state most f.
    let live = c.live-live.ensures ∙ ap (λ (id : List ℕ). option_map block_number (live_block id c.args.index.now)) c.as_slice.ensures.bytes in
    let e = not_early limits c.args.mapping.now (write_view c.args.it) c.args.index.now state c.live-live.result f live (sym c.in_default.is ∙ c.early_refusal.ensures)
    ∙ ap (λ (o : Operation). change_or_nothing limits c.args.mapping.now (write_view (record { target = c.args.it.target; operation = o })) (live_tree c.args.it.target.id state.content.live) state) c.in-Index.is in
    subst (λ (answer : Answer). Ends state (outcome_of state answer) (answered_of c.put.result) c.put.new.out.bytes (Some c.put.new.mapping) c.put.new.index) (sym e)
    (c.put.ensures.answers limits state (live_tree c.args.it.target.id state.content.live) most f (number_live c.args.mapping.now c.args.it.target.id c.args.index.now state f ∙ sym live))

pub returns-in-Create-clause-answers : goal.returns-in-Create-clause-answers
returns-in-Create-clause-answers g c = λ limits state most f.
    let live = c.live-live.ensures ∙ ap (λ (id : List ℕ). option_map block_number (live_block id c.args.index.now)) c.as_slice.ensures.bytes in
    let e = not_early limits c.args.mapping.now (write_view c.args.it) c.args.index.now state c.live-live.result f live (sym c.in_default.is ∙ c.early_refusal.ensures)
    ∙ ap (λ (o : Operation). change_or_nothing limits c.args.mapping.now (write_view (record { target = c.args.it.target; operation = o })) (live_tree c.args.it.target.id state.content.live) state) c.in-Create.is in
    subst (λ (answer : Answer). Ends state (outcome_of state answer) (answered_of c.put-in-Create.result) c.put-in-Create.new.out.bytes (Some c.put-in-Create.new.mapping) c.put-in-Create.new.index) (sym e)
    (c.put-in-Create.ensures.answers limits state (live_tree c.args.it.target.id state.content.live) most f (number_live c.args.mapping.now c.args.it.target.id c.args.index.now state f ∙ sym live))

pub returns-in-Update-clause-answers : goal.returns-in-Update-clause-answers
returns-in-Update-clause-answers g c = λ limits state most f.
    let live = c.live-live.ensures ∙ ap (λ (id : List ℕ). option_map block_number (live_block id c.args.index.now)) c.as_slice.ensures.bytes in
    let e = not_early limits c.args.mapping.now (write_view c.args.it) c.args.index.now state c.live-live.result f live (sym c.in_default.is ∙ c.early_refusal.ensures)
    ∙ ap (λ (o : Operation). change_or_nothing limits c.args.mapping.now (write_view (record { target = c.args.it.target; operation = o })) (live_tree c.args.it.target.id state.content.live) state) c.in-Update.is in
    subst (λ (answer : Answer). Ends state (outcome_of state answer) (answered_of c.update.result) c.update.new.out.bytes (Some c.update.new.mapping) c.update.new.index) (sym e)
    (c.update.ensures.answers limits state most f)

pub returns-clause-answers : goal.returns-clause-answers
returns-clause-answers g c = λ limits state most f.
    let live = c.live-live.ensures ∙ ap (λ (id : List ℕ). option_map block_number (live_block id c.args.index.now)) c.as_slice.ensures.bytes in
    let e = not_early limits c.args.mapping.now (write_view c.args.it) c.args.index.now state c.live-live.result f live (sym c.in_default.is ∙ c.early_refusal.ensures)
    ∙ ap (λ (o : Operation). change_or_nothing limits c.args.mapping.now (write_view (record { target = c.args.it.target; operation = o })) (live_tree c.args.it.target.id state.content.live) state) c.in-Delete.is in
    subst (λ (answer : Answer). Ends state (outcome_of state answer) (answered_of c.delete.result) c.delete.new.out.bytes (Some c.args.mapping.now) c.delete.new.index) (sym e)
    (c.delete.ensures.answers limits state most f)

pub returns-in-Some-clause-leaves : goal.returns-in-Some-clause-leaves
returns-in-Some-clause-leaves g c = leaves_same _ c.args.mapping.now c.args.index.now c.requires.index
