use Rattle.std.proofs.Common.{◌≡◌, map}
use Rattle.std.specs.List.{range_with_len}
use Rattle.segment.specs.Live.{root_of}
use Rattle.segment_parts.specs.Parts.{root_flags}
use Rattle.segment_fits.specs.Tested.{standing_of}
use Rattle.segment_fits.proofs.standing.standings_among.Given as goal

abbrev pub invariant-documents : goal.invariant-documents
invariant-documents l = (l.standings.items ≡ map (standing_of l.segment) (range_with_len 0 l.doc)) × (l.root ≡ root_of (root_flags l.segment.scopes) l.doc)
