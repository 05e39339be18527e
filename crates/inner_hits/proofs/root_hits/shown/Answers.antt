use Rattle.std.proofs.Common.{◌≡◌, ◌<◌, ℕ, List, [], get_or, Some, None, if◌then◌else◌, ap, subst, sym, ◌∙◌, arith}
use Rattle.query_ast.specs.Definition.{Definition, definitions_of}
use Rattle.query_ast.specs.Inner.{Inner}
use Rattle.query_ast.specs.InnerHits.{inner_pages}
use Rattle.segment.specs.Live.{EntryState}
use Rattle.segment_parts.specs.declared.columns.Columns.{Columns}
use Rattle.tree_json.specs.Reading.{reading}
use Rattle.tree_json.specs.Text.{compact}
use Rattle.tree_json.specs.Value.{JsonValue}
use Rattle.tree_objects.specs.Object.{content, root, tree_of}
use Rattle.view_objects.specs.Hits.{live_trees, object_at}
use Rattle.inner_hits.specs.Hits.{IsOwner, ReadsBack}
use Rattle.inner_hits.proofs.Between.{doc_low, entry_at}
use Rattle.inner_hits.proofs.Standing.{at_root, kept_root, standing_of}
use Rattle.inner_hits.proofs.Refusals.{same_refusal}
use Rattle.inner_hits.proofs.root_hits.shown.Goals as goal

pub fetched-requires : goal.fetched-requires
fetched-requires g c =
    subst (λ (x : Columns). c.args.doc < x.documents) (sym c.segment-segment.ensures) (doc_low c.args.view.now c.args.place c.args.doc c.index-entries-place.result c.requires.doc (c.index-entries-place.is ∙ ap (λ (l : List EntryState). get_or l c.args.place c.index-entries-place.result) c.entries.ensures.entries))

pub returns-then-is_empty-clause-shown : goal.returns-then-is_empty-clause-shown
returns-then-is_empty-clause-shown g c = λ trees stands kept hit.
    let m = c.args.mapping.now in
    let view = c.args.view.now in
    let place = c.args.place in
    let doc = c.args.doc in
    let o = object_at m trees place doc in
    let in_root : o ≡ root (tree_of o) = at_root m (λ trees doc is low. c.documents_are_of_objects.ensures.trees m trees doc is low) view trees place doc stands hit in
    let entry = c.index-entries-place.result in
    let at = entry_at view place doc entry c.requires.doc (c.index-entries-place.is ∙ ap (λ (l : List EntryState). get_or l c.args.place c.index-entries-place.result) c.entries.ensures.entries) in
    let there = standing_of m view trees place entry c.segment-segment.result.now stands at c.segment-segment.ensures in (
      c.in_ok-bare.ensures.source m entry.live (get_or trees place []) there ∙ ap (λ (v : JsonValue). if c.args.source then Some (compact v) else None) (sym (ap content in_root)),
      c.in_ok-bare.ensures.inner ∙ sym (ap (λ (ds : List (Definition Inner)). inner_pages m (live_trees trees) (definitions_of ds) o) c.in_ok-bare.ensures.none),
    )

pub returns-in_err-pages-clause-steps : goal.returns-in_err-pages-clause-steps
returns-in_err-pages-clause-steps g c = λ trees stands kept hit.
    let m = c.args.mapping.now in
    let view = c.args.view.now in
    let place = c.args.place in
    let doc = c.args.doc in
    let o = object_at m trees place doc in
    let entry = c.index-entries-place.result in
    let at = entry_at view place doc entry c.requires.doc (c.index-entries-place.is ∙ ap (λ (l : List EntryState). get_or l c.args.place c.index-entries-place.result) c.entries.ensures.entries) in
    let there = standing_of m view trees place entry c.segment-segment.result.now stands at c.segment-segment.ensures in
    let text = c.in_ok-text.ensures.source m entry.live (get_or trees place []) there in
    let reads : ReadsBack (tree_of o) = kept_root m (λ trees doc is low. c.documents_are_of_objects.ensures.trees m trees doc is low) view trees place doc stands kept hit in
    let asked : IsOwner m view trees 0 place doc _ _ = record { stands = stands; kept = kept; hit = hit; holds = λ need. c.in_ok-whole.ensures (tree_of o).source need (ap reading (c.as_slice-2.ensures.value ∙ text) ∙ reads) } in
    omega (arith, c.in_ok-text.ensures.step, c.in_err-pages.ensures.steps trees asked)

pub returns-in_err-pages-clause-too_large : goal.returns-in_err-pages-clause-too_large
returns-in_err-pages-clause-too_large g c = λ large trees stands kept hit.
    let m = c.args.mapping.now in
    let view = c.args.view.now in
    let place = c.args.place in
    let doc = c.args.doc in
    let o = object_at m trees place doc in
    let entry = c.index-entries-place.result in
    let at = entry_at view place doc entry c.requires.doc (c.index-entries-place.is ∙ ap (λ (l : List EntryState). get_or l c.args.place c.index-entries-place.result) c.entries.ensures.entries) in
    let there = standing_of m view trees place entry c.segment-segment.result.now stands at c.segment-segment.ensures in
    let text = c.in_ok-text.ensures.source m entry.live (get_or trees place []) there in
    let reads : ReadsBack (tree_of o) = kept_root m (λ trees doc is low. c.documents_are_of_objects.ensures.trees m trees doc is low) view trees place doc stands kept hit in
    let asked : IsOwner m view trees 0 place doc _ _ = record { stands = stands; kept = kept; hit = hit; holds = λ need. c.in_ok-whole.ensures (tree_of o).source need (ap reading (c.as_slice-2.ensures.value ∙ text) ∙ reads) } in
    c.in_err-pages.ensures.too_large (same_refusal c.from_residual-in_err-pages.result c.from_residual-in_err-pages.ensures.1 large) trees asked

pub returns-clause-shown : goal.returns-clause-shown
returns-clause-shown g c = λ trees stands kept hit.
    let m = c.args.mapping.now in
    let view = c.args.view.now in
    let place = c.args.place in
    let doc = c.args.doc in
    let o = object_at m trees place doc in
    let in_root : o ≡ root (tree_of o) = at_root m (λ trees doc is low. c.documents_are_of_objects.ensures.trees m trees doc is low) view trees place doc stands hit in
    let entry = c.index-entries-place.result in
    let at = entry_at view place doc entry c.requires.doc (c.index-entries-place.is ∙ ap (λ (l : List EntryState). get_or l c.args.place c.index-entries-place.result) c.entries.ensures.entries) in
    let there = standing_of m view trees place entry c.segment-segment.result.now stands at c.segment-segment.ensures in
    let text = c.in_ok-text.ensures.source m entry.live (get_or trees place []) there in
    let reads : ReadsBack (tree_of o) = kept_root m (λ trees doc is low. c.documents_are_of_objects.ensures.trees m trees doc is low) view trees place doc stands kept hit in
    let asked : IsOwner m view trees 0 place doc _ _ = record { stands = stands; kept = kept; hit = hit; holds = λ need. c.in_ok-whole.ensures (tree_of o).source need (ap reading (c.as_slice-2.ensures.value ∙ text) ∙ reads) } in (
      c.if_asked.ensures ∙ ap (λ (s : List ℕ). if c.args.source then Some s else None) text ∙ ap (λ (v : JsonValue). if c.args.source then Some (compact v) else None) (sym (ap content in_root)),
      c.in_ok-pages.ensures.pages trees asked,
    )

pub returns-clause-steps : goal.returns-clause-steps
returns-clause-steps g c = λ trees stands kept hit.
    let m = c.args.mapping.now in
    let view = c.args.view.now in
    let place = c.args.place in
    let doc = c.args.doc in
    let o = object_at m trees place doc in
    let entry = c.index-entries-place.result in
    let at = entry_at view place doc entry c.requires.doc (c.index-entries-place.is ∙ ap (λ (l : List EntryState). get_or l c.args.place c.index-entries-place.result) c.entries.ensures.entries) in
    let there = standing_of m view trees place entry c.segment-segment.result.now stands at c.segment-segment.ensures in
    let text = c.in_ok-text.ensures.source m entry.live (get_or trees place []) there in
    let reads : ReadsBack (tree_of o) = kept_root m (λ trees doc is low. c.documents_are_of_objects.ensures.trees m trees doc is low) view trees place doc stands kept hit in
    let asked : IsOwner m view trees 0 place doc _ _ = record { stands = stands; kept = kept; hit = hit; holds = λ need. c.in_ok-whole.ensures (tree_of o).source need (ap reading (c.as_slice-2.ensures.value ∙ text) ∙ reads) } in
    omega (arith, c.in_ok-text.ensures.step, c.in_ok-pages.ensures.steps trees asked)

pub bare-requires-clause-doc : goal.bare-requires-clause-doc
bare-requires-clause-doc g c =
    subst (λ (x : Columns). c.args.doc < x.documents) (sym c.segment-segment.ensures) (doc_low c.args.view.now c.args.place c.args.doc c.index-entries-place.result c.requires.doc (c.index-entries-place.is ∙ ap (λ (l : List EntryState). get_or l c.args.place c.index-entries-place.result) c.entries.ensures.entries))
