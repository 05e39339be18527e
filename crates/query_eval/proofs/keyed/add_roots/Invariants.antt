use Rattle.query_eval.specs.Keyed.{AddsKeyed}
use Rattle.query_eval.proofs.keyed.add_roots.Given as goal

abbrev pub invariant-documents : goal.invariant-documents
invariant-documents l = AddsKeyed l.mapping l.joins l.side l.segment l.place l.doc l.fn.roots.items l.roots.items
