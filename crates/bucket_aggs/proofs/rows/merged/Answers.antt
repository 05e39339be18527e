use Rattle.std.proofs.Common.{[], sym, subst, rules}
use Rattle.std.proofs.lemmas.List.Sorted.{answers_always}
use Rattle.std.specs.Vec.Iter.{into_iter_items}
use Rattle.bucket_aggs.proofs.Weights.{Merging, Rows, key_before, keys_rank, merging_more, merging_start}
use Rattle.bucket_aggs.proofs.rows.merged.Goals as goal

pub rows-init : goal.rows-init
rows-init c = (
  tt,
  tt,
  subst (λ (made : Rows). Merging c.args.rows.items made (into_iter_items c.into_iter-row-iterator.result)) (sym c.new-made.ensures.items)
      (subst (λ (rest : Rows). Merging c.args.rows.items [] rest) (sym c.into_iter-row-iterator.ensures.into_iter_gives.0)
      (merging_start c.args.rows.items c.sort_by.new.self.items c.in_ok-sort_by.ensures.permutation
      (c.in_ok-sort_by.ensures.sorted key_before keys_rank (answers_always _ _ _ (λ f a r h called. search rules))))),
)

pub rows-preserved : goal.rows-preserved
rows-preserved c = (
  tt,
  tt,
  merging_more c.args.rows.items c.rows.made.items c.add.new.rows.items c.in-Some.row (into_iter_items c.next.new.self)
      (subst (λ (rest : Rows). Merging c.args.rows.items c.rows.made.items rest) c.in-Some.ensures.steps.0 c.rows.invariant.2) c.in_ok-add.ensures,
)

pub returns-clause-keys : goal.returns-clause-keys
returns-clause-keys c = λ kind are. let kept = c.rows.invariant.2.keys kind are in kept.0
