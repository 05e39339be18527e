use Rattle.std.proofs.Common.{None}
use Rattle.part_text.specs.Reading.{many_at}
use Rattle.part_text.specs.Walks.{IsWalked}
use Rattle.doc_values.specs.Reading.{value_at}
use Rattle.doc_values.proofs.walk.values_at.Given as goal

abbrev pub invariant-values : goal.invariant-values
invariant-values g l =
    IsWalked (λ (value : g.row.T.Denot). value) (value_at g.T.Ord.cmp g.T.ColumnValue.read)
    (many_at (λ (value : g.row.T.Denot). value) (value_at g.T.Ord.cmp g.T.ColumnValue.read) None l.count l.initial.rest) l.count l.before l.counter l.rest
