use Rattle.std.proofs.Common.{◌≡◌, ◌∙◌, sym, ap, nat_lt}
use Rattle.tree_json.specs.View.{view}
use Rattle.mapping_body.specs.Body.{properties_of}
use Rattle.mapping_growth.specs.Fields.{draft_paths, drafts_of}
use Rattle.mapping_growth.proofs.Counted.{new_many}
use Rattle.mapping_growth.proofs.taken.adds_fields.Goals as goal

pub returns : goal.returns
returns c = ap (nat_lt 0) (rw c.as_slice.ensures.value at c.added_count.ensures ∙ new_many (draft_paths (drafts_of c.args.said.now)) c.args.candidate.now.outlines.items (properties_of (view c.args.candidate.now.body.now)) c.requires.properties)
