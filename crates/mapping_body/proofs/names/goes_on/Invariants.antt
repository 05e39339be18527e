use Rattle.std.proofs.Common.{◌≡◌, drop}
use Rattle.mapping_body.specs.Names.{goes_on}
use Rattle.mapping_body.proofs.names.goes_on.Given as goal

abbrev pub invariant-bytes : goal.invariant-bytes
invariant-bytes l = goes_on (drop l.at l.above) (drop l.at l.path) ≡ goes_on l.above l.path
