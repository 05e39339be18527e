use Rattle.std.proofs.Common.{◌≡◌, ◌≤◌, ◌+◌, ℕ, List, Option, Some, ap, subst, sym, ◌∙◌}
use Rattle.std.specs.Option.{option_map}
use Rattle.machine.specs.Answer.{outcome_of}
use Rattle.machine.specs.Searching.{search_by, search_over, searched}
use Rattle.machine.specs.State.{sealed_state}
use Rattle.reply_text.specs.declared.refusal.Refusal.TheVariants.{UnknownPit}
use Rattle.tree_objects.specs.Tree.{Tree}
use Rattle.engine.specs.Parts.{Ends, answered_of}
use Rattle.engine.specs.Reads.{page_reads_of}
use Rattle.engine.proofs.Answering.{refusal_ends}
use Rattle.engine.proofs.Pointing.{none_searched, point_fits, point_searched}
use Rattle.engine.proofs.search.search_over.Goals as goal

pub search_view-requires-clause-view : goal.search_view-requires-clause-view
search_view-requires-clause-view g c =
    point_fits c.args.mapping.now c.in-Some.id c.in-Some-view.view.now c.args.points.now c.requires.points (sym (ap (option_map (λ view. view.now)) c.in-Some-view.is) ∙ c.view.ensures)

pub returns-in-Some-view-clause-answers : goal.returns-in-Some-view-clause-answers
returns-in-Some-view-clause-answers g c = λ state f stand.
    let s = point_searched c.args.mapping.now c.in-Some.id c.in-Some-view.view.now c.args.points.now state.points stand (sym (ap (option_map (λ view. view.now)) c.in-Some-view.is) ∙ c.view.ensures) in
    let is : searched c.args.search.now.pit (sealed_state state) ≡ Some s.live = ap (λ (pit : Option ℕ). searched pit (sealed_state state)) c.in-Some.is ∙ s.is in
    subst (λ (live : Option (List Tree)). Ends state (outcome_of state (search_over c.args.limits.now c.args.mapping.now c.args.search.now live (sealed_state state))) (answered_of c.search_view.result)
    c.search_view.new.out.bytes (Some c.args.mapping.now) c.search_view.new.index) (sym is) (c.search_view.ensures.answers state s.live f s.stand)

pub returns-in-Some-view-clause-reads : goal.returns-in-Some-view-clause-reads
returns-in-Some-view-clause-reads g c = λ state f stand.
    let s = point_searched c.args.mapping.now c.in-Some.id c.in-Some-view.view.now c.args.points.now state.points stand (sym (ap (option_map (λ view. view.now)) c.in-Some-view.is) ∙ c.view.ensures) in
    let is : searched c.args.search.now.pit state ≡ Some s.live = ap (λ (pit : Option ℕ). searched pit state) c.in-Some.is ∙ s.is in
    subst (λ (live : Option (List Tree)). c.search_view.new.steps ≤ c.args.steps.now + page_reads_of c.args.mapping.now c.args.search.now live) (sym is) (c.search_view.ensures.reads s.live s.stand)

pub returns-in-None-view-clause-answers : goal.returns-in-None-view-clause-answers
returns-in-None-view-clause-answers g c = λ state f stand.
    let none = none_searched c.args.mapping.now c.in-Some.id c.args.points.now state.points stand (sym (ap (option_map (λ view. view.now)) c.in-None-view.is) ∙ c.view.ensures) in
    let is = ap (λ (pit : Option ℕ). searched pit (sealed_state state)) c.in-Some.is ∙ none in
    refusal_ends (Some c.args.mapping.now) c.args.index.now state (search_by c.args.limits.now c.args.mapping.now c.args.search.now (sealed_state state)) UnknownPit c.refuse.result c.refuse.new.out.bytes f
    (ap (λ (live : Option (List Tree)). search_over c.args.limits.now c.args.mapping.now c.args.search.now live (sealed_state state)) is) c.refuse.ensures.refused

pub search_view-requires-clause-ordinals : goal.search_view-requires-clause-ordinals
search_view-requires-clause-ordinals g c =
    (c.args.points.now, sym (sym (ap (option_map (λ view. view.now)) c.in-Some-view.is) ∙ c.view.ensures), c.requires.ordinals)

pub returns-in-Some-view-clause-ordinals : goal.returns-in-Some-view-clause-ordinals
returns-in-Some-view-clause-ordinals g c =
    c.search_view.ensures.ordinals c.args.points.now (sym (sym (ap (option_map (λ view. view.now)) c.in-Some-view.is) ∙ c.view.ensures)) c.requires.ordinals
