use Rattle.std.proofs.Common.{◌≡◌, drop, length}
use Rattle.segment_builder.specs.Columns.{with_marks, marks_of}
use Rattle.segment_builder.proofs.present.set_of.Given as goal

abbrev pub invariant-docs : goal.invariant-docs
invariant-docs l =
    (with_marks l.set (drop l.doc-index l.docs) ≡ marks_of l.documents l.docs)
    × (length l.set ≡ l.documents)
