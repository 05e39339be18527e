use Rattle.std.proofs.Common.{◌≡◌, ◌++◌, drop, map}
use Rattle.segment_merge.specs.TermRefs.{all_terms, ref_lent}
use Rattle.segment_merge.proofs.terms.term_refs.Given as goal

abbrev pub invariant-parts : goal.invariant-parts
invariant-parts l = map ref_lent l.refs.items ++ all_terms l.place (drop l.place l.parts) ≡ all_terms 0 l.parts
