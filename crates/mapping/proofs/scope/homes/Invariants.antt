use Rattle.std.proofs.Common.{◌≡◌, map, take}
use Rattle.mapping_growth.specs.Kept.{made_of}
use Rattle.mapping.specs.Mapping.{nearest}
use Rattle.mapping.proofs.scope.homes.Given as goal

abbrev pub invariant-drafts : goal.invariant-drafts
invariant-drafts l = l.homes.items ≡ map (λ d. nearest (map (λ p. p.bytes.items) l.paths) d.path) (map made_of (take l.draft-index l.drafts))
