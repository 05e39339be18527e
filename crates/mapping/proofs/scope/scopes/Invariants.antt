use Rattle.std.proofs.Common.{◌≡◌, ◌++◌, map, drop}
use Rattle.mapping.specs.Mapping.{scopes_by, scope_by, nested_among}
use Rattle.mapping_growth.specs.Kept.{made_of}
use Rattle.mapping.specs.Stored.{scope_parts, scope_seen}
use Rattle.mapping.proofs.scope.scopes.Given as goal

abbrev pub invariant-drafts : goal.invariant-drafts
invariant-drafts l =
    map scope_seen l.scopes.items ++ map scope_parts (map (scope_by (map (λ p. p.bytes.items) l.paths)) (nested_among (map made_of (drop l.draft-index l.drafts))))
    ≡ map scope_parts (scopes_by (map made_of l.drafts))
