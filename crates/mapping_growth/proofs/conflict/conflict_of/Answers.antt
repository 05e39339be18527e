use Rattle.std.proofs.Common.{◌≡◌, ◌<◌, ◌∙◌, [], sym, ap, map, length, List, ℕ, Some, None, option_map, Option, arith}
use Rattle.std.proofs.lemmas.List.{get_or-map, length-map}
use Rattle.tree_json.specs.Value.{JsonValue}
use Rattle.tree_json.specs.View.{view}
use Rattle.mapping_growth.specs.Bodies.{conflict_of}
use Rattle.mapping_body.specs.Body.{properties_of}
use Rattle.mapping_growth.specs.declared.draft.Draft.{Draft as Made}
use Rattle.mapping_growth.specs.Fields.{draft_paths, drafts_of}
use Rattle.mapping_growth.specs.Judged.{otherwise_at}
use Rattle.mapping_body.specs.Order.{name_at}
use Rattle.mapping_growth.specs.Outline.{outlined}
use Rattle.mapping_growth.specs.Relations.{relations_of}
use Rattle.mapping_growth.proofs.Conflicts.{conflict_found, from_some, outlined_kept}
use Rattle.mapping_growth.specs.Kept.{made_of}
use Rattle.mapping_growth.proofs.Keeping.{paths_are}
use Rattle.mapping_growth.proofs.conflict.conflict_of.Goals as goal

pub conflict_at-requires-clause-outlines : goal.conflict_at-requires-clause-outlines
conflict_at-requires-clause-outlines c =
    rw (c.as_slice-3.ensures.value, c.requires.properties) (outlined_kept (drafts_of c.args.said.now) (properties_of (view c.args.candidate.now.body.now)))

pub returns-in-Some : goal.returns-in-Some
unfolding conflict_of
returns-in-Some c =
    let number : Some c.in-Some.field ≡ otherwise_at (relations_of c.args.said.now) (drafts_of c.args.said.now) (map (outlined (draft_paths (drafts_of c.args.said.now))) (properties_of (view c.args.candidate.now.body.now))) =
    sym c.in-Some.is ∙ rw c.as_slice-3.ensures.value at c.in_ok-field.ensures.number ∙ ap (otherwise_at (relations_of c.args.said.now) (drafts_of c.args.said.now)) c.requires.properties in
    let inside : c.in-Some.field < length c.said.inside.fields.items =
    omega (
      arith,
      from_some c.in_ok-field.field-0 (λ f. f < length (drafts_of c.args.said.now)) c.in-Some.field c.in-Some.is c.in_ok-field.ensures.bound,
      length-map c.said.inside.fields.items made_of,
      ap length c.said.invariant.0.fields,
      ap (λ (bs : List JsonValue). length (drafts_of bs)) c.said.view_is,
    ) in
    let path : c.in_ok-copy_of-in-Some.field-0 ≡ name_at (draft_paths (drafts_of c.args.said.now)) c.in-Some.field =
    c.in_ok-copy_of-in-Some.ensures ∙ c.as_slice-in-Some.ensures.value ∙ ap (λ (d : Made). d.path.items) c.index.ensures
    ∙ sym (get_or-map (λ d. d.path.items) c.said.inside.fields.items c.in-Some.field c.index.result.now [] inside)
    ∙ ap (λ (names : List (List ℕ)). name_at names c.in-Some.field) (sym (paths_are (map view c.said.inside.bodies.items) c.said.inside.fields.items c.said.invariant.0.fields))
    ∙ ap (λ (bs : List JsonValue). name_at (draft_paths (drafts_of bs)) c.in-Some.field) c.said.view_is in
    ap Some path ∙ ap (option_map (λ n. name_at (draft_paths (drafts_of c.args.said.now)) n)) number
    ∙ conflict_found (relations_of c.args.said.now) (drafts_of c.args.said.now) (properties_of (view c.args.candidate.now.body.now))

pub returns : goal.returns
unfolding conflict_of
returns c =
    let none : None ≡ otherwise_at (relations_of c.args.said.now) (drafts_of c.args.said.now) (map (outlined (draft_paths (drafts_of c.args.said.now))) (properties_of (view c.args.candidate.now.body.now))) =
    sym c.in-None.is ∙ rw c.as_slice-3.ensures.value at c.in_ok-field.ensures.number ∙ ap (otherwise_at (relations_of c.args.said.now) (drafts_of c.args.said.now)) c.requires.properties in
    ap (option_map (λ n. name_at (draft_paths (drafts_of c.args.said.now)) n)) none ∙ conflict_found (relations_of c.args.said.now) (drafts_of c.args.said.now) (properties_of (view c.args.candidate.now.body.now))
