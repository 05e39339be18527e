use Rattle.std.proofs.Common.{◌≡◌, ◌+◌, ◌≤◌, ◌∙◌, sym, ap, subst, map, length, arith, List, ℕ, filter, not, ◌||◌, Bool, false}
use Rattle.std.proofs.lemmas.List.{length-append}
use Rattle.std.proofs.lemmas.List.Folds.{list_any-append}
use Rattle.std.specs.List.{list_any, count_by}
use Rattle.tree_json.specs.Value.{JsonValue}
use Rattle.tree_json.specs.View.{view}
use Rattle.mapping_growth.specs.Bodies.{is_bad_join, is_deep, says_join, says_nested}
use Rattle.mapping_body.specs.Body.{Property, properties_of}
use Rattle.mapping_growth.specs.Fields.{additions_of, draft_paths, drafts_of, properties_added}
use Rattle.mapping_growth.specs.Judged.{lies_deep, holds_objects, is_join_outline, is_bad_outline}
use Rattle.mapping_growth.proofs.Adding.{additions_more}
use Rattle.mapping_growth.proofs.Counted.{count_append, new_any, new_counted, new_many}
use Rattle.mapping_growth.proofs.Fitting.{fit}
use Rattle.mapping_growth.proofs.limit.is_deep.Goals as goal

pub returns : goal.returns
returns c =
    let all = ap (list_any is_deep) (additions_more c.args.said.now (view c.args.candidate.now.body.now)) ∙ list_any-append is_deep (additions_of c.args.said.now) (properties_added (draft_paths (drafts_of c.args.said.now)) (view c.args.candidate.now.body.now)) in
    rw c.as_slice.ensures.value at c.some_lies_deep.ensures ∙ new_any (draft_paths (drafts_of c.args.said.now)) c.args.candidate.now.outlines.items (properties_of (view c.args.candidate.now.body.now)) c.requires.candidate.properties lies_deep ∙ sym (rw (fit c.args.said.now c.requires.within).shallow at all)
