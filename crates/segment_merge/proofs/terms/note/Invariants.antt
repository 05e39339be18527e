use Rattle.std.proofs.Common.{◌≡◌, drop, map}
use Rattle.segment_merge.specs.TermRefs.{noted, place_lent, rooms_of}
use Rattle.segment_merge.proofs.terms.note.Given as goal

abbrev pub invariant-places : goal.invariant-places
invariant-places l =
    (noted l.new (map place_lent (drop l.term-index l.places)) l.news ≡ noted l.new (map place_lent l.places) l.fn.news)
    × (rooms_of l.news ≡ rooms_of l.fn.news)
