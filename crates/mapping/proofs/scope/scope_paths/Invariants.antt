use Rattle.std.proofs.Common.{◌≡◌, ◌++◌, map, drop}
use Rattle.mapping.specs.Mapping.{scope_paths, nested_among}
use Rattle.mapping_growth.specs.Fields.{draft_paths}
use Rattle.mapping_growth.specs.Kept.{made_of}
use Rattle.mapping.proofs.scope.scope_paths.Given as goal

abbrev pub invariant-drafts : goal.invariant-drafts
invariant-drafts l =
    map (λ p. p.bytes.items) l.paths.items ++ draft_paths (nested_among (map made_of (drop l.draft-index l.drafts)))
    ≡ scope_paths (map made_of l.drafts)
