use Rattle.std.proofs.Common.{◌≡◌, ◌++◌, ◌+◌, ◌∙◌, sym, ap, map, filter, not, length, List, ℕ}
use Rattle.tree_json.specs.View.{view}
use Rattle.mapping_growth.specs.Fields.{Draft, draft_paths, drafts_added, drafts_of}
use Rattle.mapping_growth.specs.Kept.{made_of}
use Rattle.mapping_body.specs.Names.{is_among}
use Rattle.mapping_growth.proofs.Adding.{drafts_more}
use Rattle.mapping_body.proofs.Puts.{ascending_none}
use Rattle.mapping_growth.proofs.taken.fields_with.Goals as goal

pub draft_below-requires : goal.draft_below-requires
draft_below-requires c = ascending_none (λ d. d.path.items) c.new-found.result.items c.new-found.ensures.items

pub returns : goal.returns
returns c =
    let kept : map made_of c.push_fields.new.whole.items ≡ drafts_of c.args.said.now =
    rw (c.new-fields.ensures.items, c.as_slice.ensures.value) at c.in_ok-push_fields.ensures ∙ c.said.invariant.0.fields ∙ ap drafts_of c.said.view_is in
    let found = rw c.new-found.ensures.items at c.in_ok-draft_below.ensures.put in
    let added : filter (λ d. not (is_among (draft_paths (drafts_of c.args.said.now)) d.path)) (map made_of c.draft_below.new.found.items) ≡ drafts_added (length c.args.said.now + 1) (draft_paths (drafts_of c.args.said.now)) (view c.args.candidate.now.body.now) =
    ap (filter (λ d. not (is_among (draft_paths (drafts_of c.args.said.now)) d.path))) found
    ∙ ap (λ (g : ℕ). drafts_added g (draft_paths (drafts_of c.args.said.now)) (view c.args.candidate.now.body.now)) c.next_generation.ensures in
    rw c.as_slice-2.ensures.value at c.in_ok-push_new.ensures
    ∙ ap (λ (ds : List Draft). ds ++ filter (λ d. not (is_among (draft_paths (drafts_of c.args.said.now)) d.path)) (map made_of c.draft_below.new.found.items)) kept
    ∙ ap (λ (ds : List Draft). drafts_of c.args.said.now ++ ds) added
    ∙ sym (drafts_more c.args.said.now (view c.args.candidate.now.body.now))
