use Rattle.std.proofs.Common.{◌≡◌, ◌++◌, ◌∷◌, [], ◌∙◌, sym, ap, length, List}
use Rattle.std.proofs.lemmas.List.{length-append}
use Rattle.tree_json.specs.Value.{JsonValue}
use Rattle.tree_json.specs.View.{view}
use Rattle.mapping_body.specs.Body.{properties_of}
use Rattle.mapping_growth.specs.Fields.{additions_of, draft_paths, drafts_of, properties_added}
use Rattle.mapping_growth.specs.Kept.{counted}
use Rattle.mapping_growth.proofs.Adding.{additions_more}
use Rattle.mapping_growth.proofs.Counted.{new_many}
use Rattle.mapping_growth.proofs.Keeping.{counted_more}
use Rattle.mapping_growth.proofs.taken.added_with.Goals as goal

pub returns : goal.returns
returns c =
    let few : c.said.inside.counts.added ≡ counted (length (additions_of c.args.said.now)) = c.said.invariant.1.added_is ∙ ap (λ (bs : List JsonValue). counted (length (additions_of bs))) c.said.view_is in
    let many : c.added_count-more.result ≡ length (properties_added (draft_paths (drafts_of c.args.said.now)) (view c.args.candidate.now.body.now)) =
    rw c.as_slice.ensures.value at c.added_count-more.ensures ∙ new_many (draft_paths (drafts_of c.args.said.now)) c.args.candidate.now.outlines.items (properties_of (view c.args.candidate.now.body.now)) c.requires.properties in
    let whole = ap (length) (additions_more c.args.said.now (view c.args.candidate.now.body.now)) ∙ length-append (additions_of c.args.said.now) (properties_added (draft_paths (drafts_of c.args.said.now)) (view c.args.candidate.now.body.now)) in
    let sum = counted_more (length (additions_of c.args.said.now)) (length (properties_added (draft_paths (drafts_of c.args.said.now)) (view c.args.candidate.now.body.now))) (length (additions_of (c.args.said.now ++ view c.args.candidate.now.body.now ∷ []))) whole in
    (rw (few, many) at c.saturating_add.ensures) ∙ sum
