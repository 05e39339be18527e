use Rattle.std.proofs.Common.{◌≡◌, true, ℕ, List, Some, None, is_some, ap, refl, subst, sym, ◌∙◌}
use Rattle.std.proofs.lemmas.Result.{err_from_is_err_and}
use Rattle.index_core.specs.Kept.{live_block}
use Rattle.machine.specs.Answer.{Answer, outcome_of}
use Rattle.machine.specs.Write.{added_body, put_source}
use Rattle.reply_text.specs.declared.reply.Reply.{Reply}
use Rattle.reply_text.specs.declared.reply.Reply.TheVariants.{Written}
use Rattle.reply_text.specs.declared.reply.WriteResult.TheVariants.{Noop}
use Rattle.request_form.specs.Formed.{IsSourceValue}
use Rattle.request_form.specs.Seen.{changes_view}
use Rattle.tree_json.specs.Value.{JsonValue}
use Rattle.tree_json.specs.View.{view}
use Rattle.write_plan.specs.Update.{IsUpdated}
use Rattle.engine.specs.Parts.{Ends, IsAcceptance, answered_of, update_step}
use Rattle.engine.proofs.Answering.{acceptance_ends, if_lacking, lacking}
use Rattle.engine.proofs.Taking.{live_changed, live_of, updated_anew, updated_live, updated_noop}
use Rattle.engine.proofs.Updating.{some_block, source_anew}
use Rattle.engine.proofs.Leaving.{leaves_same}
use Rattle.engine.proofs.write.update.Goals as goal

pub put-requires-clause-source : goal.put-requires-clause-source
put-requires-clause-source g c = subst IsSourceValue (sym c.put_anew.ensures) (source_anew (changes_view c.args.changes) c.requires.sources)

pub updated_live-requires-clause-live : goal.updated_live-requires-clause-live
updated_live-requires-clause-live g c =
    subst (λ (own : List ℕ). is_some (live_block own c.args.index.now) ≡ true) (sym c.as_slice.ensures.bytes) (some_block c.args.id c.args.index.now c.in-Some.number (sym c.in-Some.is ∙ c.requires.live))

pub returns-in-None-clause-answers : goal.returns-in-None-clause-answers
returns-in-None-clause-answers g c = λ limits state most f.
    let e = updated_anew limits c.args.mapping.now c.args.id (changes_view c.args.changes) c.args.index.now state f (sym c.in-None.is ∙ c.requires.live)
    ∙ ap (λ (source : JsonValue). put_source limits c.args.mapping.now c.args.id source (added_body c.args.mapping.now source) None state) (sym c.put_anew.ensures) in
    subst (λ (answer : Answer). Ends state (outcome_of state answer) (answered_of c.put.result) c.put.new.out.bytes (Some c.put.new.mapping) c.put.new.index) (sym e)
    (c.put.ensures.answers limits state None most f (sym c.in-None.is))

pub returns-in_err-source-in-Some-clause-answers : goal.returns-in_err-source-in-Some-clause-answers
returns-in_err-source-in-Some-clause-answers g c = λ limits state most f.
    let e = err_from_is_err_and c.from_residual.result c.from_residual.ensures.1 in
    if_lacking (Some c.args.mapping.now) c.args.index.now state _ c.args.out.now.bytes c.from_residual.result e.0 e.1 (lacking (Some c.args.mapping.now) c.args.index.now state _ c.args.out.now.bytes f)

pub returns-in-Some-2-clause-answers : goal.returns-in-Some-2-clause-answers
returns-in-Some-2-clause-answers g c = λ limits state most f.
    let m = c.args.mapping.now in
    let live = live_of m c.args.id c.args.index.now state c.in-Some.number f (sym c.in-Some.is ∙ c.requires.live) in
    let changed = subst (IsUpdated (view c.args.changes.doc) live.it.tree.source) c.in-Some-2.is
    (live_changed m c.args.id c.as_slice.result.now c.args.index.now state c.in-Some.number (view c.args.changes.doc) c.in_ok-source-in-Some.field-0 live c.as_slice.ensures.bytes c.in_ok-source-in-Some.ensures.updated) in
    let e = updated_live limits m c.args.id (changes_view c.args.changes) c.args.index.now state c.in-Some.number (view c.in-Some-2.source) live changed.0 changed.1 in
    subst (λ (answer : Answer). Ends state (outcome_of state answer) (answered_of c.put-in-Some-2.result) c.put-in-Some-2.new.out.bytes (Some c.put-in-Some-2.new.mapping) c.put-in-Some-2.new.index) (sym e)
    (c.put-in-Some-2.ensures.answers limits state (Some live.it.tree) most f (ap Some live.same))

pub returns-clause-answers : goal.returns-clause-answers
returns-clause-answers g c = λ limits state most f.
    let m = c.args.mapping.now in
    let live = live_of m c.args.id c.args.index.now state c.in-Some.number f (sym c.in-Some.is ∙ c.requires.live) in
    let same = subst (IsUpdated (view c.args.changes.doc) live.it.tree.source) c.in-None-2.is
    (live_changed m c.args.id c.as_slice.result.now c.args.index.now state c.in-Some.number (view c.args.changes.doc) c.in_ok-source-in-Some.field-0 live c.as_slice.ensures.bytes c.in_ok-source-in-Some.ensures.updated) in
    acceptance_ends (Some m) c.args.index.now state (update_step limits m c.args.id (changes_view c.args.changes) state) (Written c.args.id c.in-Some.number Noop) c.accept.result c.accept.new.out.bytes f
    (updated_noop limits m c.args.id (changes_view c.args.changes) c.args.index.now state c.in-Some.number live same) refl
    (subst (λ (given : Reply). IsAcceptance given c.accept.result c.accept.new.out.bytes) c.written.ensures c.accept.ensures.accepted)

pub returns-in_err-source-in-Some-clause-leaves : goal.returns-in_err-source-in-Some-clause-leaves
returns-in_err-source-in-Some-clause-leaves g c = leaves_same _ c.args.mapping.now c.args.index.now c.requires.index

pub returns-clause-leaves : goal.returns-clause-leaves
returns-clause-leaves g c = leaves_same _ c.args.mapping.now c.args.index.now c.requires.index
