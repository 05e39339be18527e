use Rattle.std.proofs.Common.{rules}
use Rattle.std.proofs.lemmas.List.Sorted.{answers_always, ranks_by}
use Rattle.segment_builder.proofs.InOrder.{risen}
use Rattle.segment_builder.proofs.Keys.{stable_key}
use Rattle.segment_builder.proofs.grouping.sort.Goals as goal

pub returns-clause-same : goal.returns-clause-same
returns-clause-same g c =
    stable_key g.K.Ord.cmp g.met.K.Ord.total _ _ c.in_ok-sort_by.ensures.permutation
    (c.in_ok-sort_by.ensures.stable _ (ranks_by g.met.K.Ord.total (λ e. e.0)) (answers_always _ _ _ (λ f a r h called. search rules)))

pub returns-clause-rising : goal.returns-clause-rising
returns-clause-rising g c =
    risen g.K.Ord.cmp g.met.K.Ord.total (ranks_by g.met.K.Ord.total (λ e. e.0)) _
    (c.in_ok-sort_by.ensures.sorted _ (ranks_by g.met.K.Ord.total (λ e. e.0)) (answers_always _ _ _ (λ f a r h called. search rules)))
