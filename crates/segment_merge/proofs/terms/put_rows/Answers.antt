use Rattle.std.proofs.Common.{List, ℕ, sym, subst, arith}
use Rattle.segment_merge.specs.TermRefs.{CanPut, group_lent, rooms_of}
use Rattle.segment_merge.proofs.Items.{item_meets}
use Rattle.segment_merge.proofs.terms.put_rows.Goals as goal

pub put_row-requires-clause-can : goal.put_row-requires-clause-can
put_row-requires-clause-can c =
    subst (λ (rooms : List ℕ). CanPut rooms (group_lent c.group-item.result)) (sym c.groups.invariant.3)
    (item_meets (CanPut (rooms_of c.args.news.now)) group_lent c.args.groups.now c.groups.group-index c.group-item.result c.requires (omega arith) c.group-item.is)
