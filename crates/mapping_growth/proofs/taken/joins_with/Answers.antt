use Rattle.std.proofs.Common.{◌≡◌, ◌++◌, ◌∷◌, [], ◌∙◌, sym, ap, length, List, count_by}
use Rattle.tree_json.specs.Value.{JsonValue}
use Rattle.tree_json.specs.View.{view}
use Rattle.mapping_body.specs.Body.{properties_of}
use Rattle.mapping_growth.specs.Bodies.{says_join}
use Rattle.mapping_growth.specs.Fields.{additions_of, draft_paths, drafts_of, properties_added}
use Rattle.mapping_growth.specs.Judged.{is_join_outline}
use Rattle.mapping_growth.specs.Kept.{counted}
use Rattle.mapping_growth.proofs.Adding.{additions_more}
use Rattle.mapping_growth.proofs.Counted.{count_append, new_counted}
use Rattle.mapping_growth.proofs.Keeping.{counted_more}
use Rattle.mapping_growth.proofs.taken.joins_with.Goals as goal

pub returns : goal.returns
returns c =
    let few : c.said.inside.counts.joins ≡ counted (count_by says_join (additions_of c.args.said.now)) = c.said.invariant.1.joins_is ∙ ap (λ (bs : List JsonValue). counted (count_by says_join (additions_of bs))) c.said.view_is in
    let many : c.join_count-more.result ≡ count_by says_join (properties_added (draft_paths (drafts_of c.args.said.now)) (view c.args.candidate.now.body.now)) =
    rw c.as_slice.ensures.value at c.join_count-more.ensures ∙ new_counted (draft_paths (drafts_of c.args.said.now)) c.args.candidate.now.outlines.items (properties_of (view c.args.candidate.now.body.now)) c.requires.properties is_join_outline in
    let whole = ap (count_by says_join) (additions_more c.args.said.now (view c.args.candidate.now.body.now)) ∙ count_append says_join (additions_of c.args.said.now) (properties_added (draft_paths (drafts_of c.args.said.now)) (view c.args.candidate.now.body.now)) in
    let sum = counted_more (count_by says_join (additions_of c.args.said.now)) (count_by says_join (properties_added (draft_paths (drafts_of c.args.said.now)) (view c.args.candidate.now.body.now))) (count_by says_join (additions_of (c.args.said.now ++ view c.args.candidate.now.body.now ∷ []))) whole in
    (rw (few, many) at c.saturating_add.ensures) ∙ sum
