use Rattle.std.proofs.Common.{◌≡◌, ◌∙◌, sym, true}
use Rattle.tree_json.specs.View.{view}
use Rattle.mapping_body.specs.Body.{is_body_alone, is_property, properties_of}
use Rattle.mapping_growth.specs.Fields.{draft_paths, drafts_of}
use Rattle.mapping_growth.proofs.Counted.{forms_all}
use Rattle.mapping_growth.proofs.candidate.has_form.Goals as goal

pub returns-then-is_body_alone : goal.returns-then-is_body_alone
returns-then-is_body_alone c =
    let alone : is_body_alone (view c.args.candidate.now.body.now) ≡ true = sym c.is_body_alone.ensures ∙ c.if-is_body_alone.true in
    rw alone
    (rw c.as_slice.ensures.value at c.are_properties.ensures
    ∙ forms_all (draft_paths (drafts_of c.args.said.now)) c.args.candidate.now.outlines.items (properties_of (view c.args.candidate.now.body.now)) c.requires.properties (λ o. is_property o.form))
