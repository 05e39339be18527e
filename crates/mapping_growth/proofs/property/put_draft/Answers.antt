use Rattle.std.proofs.Common.{ap, map, ◌∙◌}
use Rattle.mapping_growth.specs.Kept.{made_of}
use Rattle.mapping_body.proofs.Puts.{map-put}
use Rattle.mapping_growth.proofs.property.put_draft.Goals as goal

pub returns-clause-put : goal.returns-clause-put
returns-clause-put c = ap (map made_of) c.in_ok-put.ensures.put ∙ map-put made_of (λ d. d.path) c.args.draft c.args.found.now.items
