use Rattle.std.proofs.Common.{◌≡◌, ◌++◌, drop, map}
use Rattle.segment_parts.specs.Lists.{terms_of}
use Rattle.segment_merge.specs.TermRefs.{ref_lent, terms_from}
use Rattle.segment_merge.proofs.terms.add_terms.Given as goal

abbrev pub invariant-terms : goal.invariant-terms
invariant-terms l =
    map ref_lent l.into.items ++ terms_from l.part l.place l.ordinal (drop l.ordinal (terms_of l.part.entry.columns)) ≡ map ref_lent l.fn.into.items ++ terms_from l.part l.place 0 (terms_of l.part.entry.columns)
