use Rattle.std.proofs.Common.{◌≡◌, ◌∙◌}
use Rattle.tree_json.specs.View.{view}
use Rattle.mapping_body.specs.Body.{properties_of}
use Rattle.mapping_growth.specs.Fields.{draft_paths, drafts_of}
use Rattle.mapping_growth.proofs.Counted.{pairs_all}
use Rattle.mapping_growth.proofs.candidate.candidate_of.Goals as goal

pub returns-clause-candidate : goal.returns-clause-candidate
returns-clause-candidate c =
    let properties = rw c.new-outlines.ensures.items at c.in_ok-outline_below.ensures in
    record {
      properties = properties;
      relations = rw c.as_slice.ensures.value at c.in_ok-pairs.ensures
          ∙ pairs_all (draft_paths (drafts_of c.args.said.now)) c.outline_below.new.found.items (properties_of (view c.args.body.now)) properties;
    }
