use Rattle.std.proofs.Common.{◌++◌, ℕ, List, [], Option, get_or, ap, ◌∙◌}
use Rattle.query_eval.specs.Folds.{scopes_in}
use Rattle.tree_joins.specs.Seen.{at_scope}
use Rattle.query_eval.specs.Found.{live_trees}
use Rattle.view_objects.specs.Hits.{hits_between}
use Rattle.view_objects.specs.declared.hit.Hit.{Hit}
use Rattle.inner_hits.proofs.Between.{below_docs, below_found, below_hits, entry_at, place_in, scores_at}
use Rattle.inner_hits.proofs.Standing.{standing_at}
use Rattle.inner_hits.proofs.below.hits_below.Goals as goal

pub returns-clause-docs : goal.returns-clause-docs
returns-clause-docs c = below_docs c.args.view.now c.args.place c.child_start-start.result c.args.doc c.index-as_slice-place.result c.add_hits.new.hits.items (c.in_ok-add_hits.ensures.hits ∙ ap (λ (l : List Hit). l ++ hits_between c.args.place c.child_start-start.result c.args.doc c.index-as_slice-place.result) c.new-hits.ensures.items) c.child_start-start.ensures.ordered c.requires.doc

pub returns-clause-objects : goal.returns-clause-objects
returns-clause-objects c = λ m path given trees stands above asked found.
    let own : List (Option ℕ) = c.index-as_slice-place.result in
    let at = c.index-as_slice-place.is ∙ ap (λ (l : List (List (Option ℕ))). get_or l c.args.place own) c.as_slice.ensures in
    let same = scores_at m (at_scope path (given (live_trees trees))) trees c.args.place c.args.matches.now own (found.are trees stands) (place_in c.args.view.now c.args.matches.now c.args.place c.args.doc c.requires.long c.requires.doc) at in
    let entry = entry_at c.args.view.now c.args.place c.args.doc c.index-entries-place.result c.requires.doc (c.index-entries-place.is ∙ ap (λ l. get_or l c.args.place c.index-entries-place.result) c.entries.ensures.entries) in
    let there = standing_at m c.args.view.now trees c.args.place c.index-entries-place.result stands entry in
    below_found m c.args.scope path (given (live_trees trees)) trees c.args.place c.child_start-start.result c.args.doc (scopes_in c.segment.result.now) own c.add_hits.new.hits.items _
    (c.hits_are_objects.ensures.inside m c.args.scope path asked.given (given (live_trees trees)) trees c.args.place c.args.doc asked.score there.mapping above asked.is)
    c.child_start-start.ensures.start
    (ap scopes_in c.segment.ensures ∙ c.documents_are_of_objects.ensures.scopes m c.index-entries-place.result.columns c.index-entries-place.result.live (get_or trees c.args.place []) there)
    same (c.in_ok-add_hits.ensures.hits ∙ ap (λ (l : List Hit). l ++ hits_between c.args.place c.child_start-start.result c.args.doc c.index-as_slice-place.result) c.new-hits.ensures.items)

pub returns-clause-hits : goal.returns-clause-hits
returns-clause-hits c = λ m path given trees stands found.
    let own : List (Option ℕ) = c.index-as_slice-place.result in
    let at = c.index-as_slice-place.is ∙ ap (λ (l : List (List (Option ℕ))). get_or l c.args.place own) c.as_slice.ensures in
    let same = scores_at m (at_scope path (given (live_trees trees))) trees c.args.place c.args.matches.now own (found.are trees stands) (place_in c.args.view.now c.args.matches.now c.args.place c.args.doc c.requires.long c.requires.doc) at in
    below_hits m path (given (live_trees trees)) trees c.args.place c.child_start-start.result c.args.doc own c.add_hits.new.hits.items (c.in_ok-add_hits.ensures.hits ∙ ap (λ (l : List Hit). l ++ hits_between c.args.place c.child_start-start.result c.args.doc c.index-as_slice-place.result) c.new-hits.ensures.items) c.child_start-start.ensures.ordered same
