use Rattle.std.proofs.Common.{List, subst}
use Rattle.segment.specs.Live.{EntryState}
use Rattle.join_ordinals.specs.Ordinals.{AreRelations, own_id, parent_id}
use Rattle.join_ordinals.specs.Rows.{rows_seen}
use Rattle.join_ordinals.proofs.Numbering.{rows_on}
use Rattle.join_ordinals.proofs.Renumbering.{rows_made}
use Rattle.join_ordinals.proofs.ordinals.JoinOrdinals.over.Goals as goal

pub returns : goal.returns
returns c =
    let ids = c.rows_of-2.new.ids in
    let made = c.in_ok-made.ensures in
    let numbers = c.in_ok-made.made.numbers.items in
    let count = c.in_ok-made.made.count in
    let view = c.args.view.now in
    let own = rows_on c.rows_of.new.ids ids own_id c.entries.result.now (rows_seen c.in_ok-own.own.items) c.in_ok-parents.ensures.keep c.in_ok-own.ensures.rows in
    record {
      ids = made.kept;
      once = made.once;
      count = made.many;
      own = rows_made ids numbers c.as_slice.result.now count own_id c.entries.result.now view (rows_seen c.in_ok-own.own.items) (rows_seen c.renumber.new.rows.items) made c.as_slice.ensures.value own c.renumber.ensures c.entries.ensures.entries;
      parents = rows_made ids numbers c.as_slice-2.result.now count parent_id c.entries-2.result.now view (rows_seen c.in_ok-parents.parents.items) (rows_seen c.renumber-2.new.rows.items) made c.as_slice-2.ensures.value c.in_ok-parents.ensures.rows c.renumber-2.ensures c.entries-2.ensures.entries;
      relations = subst (λ (entries : List EntryState). AreRelations entries (rows_seen c.in_ok-relations.relations.items)) c.entries-3.ensures.entries c.in_ok-relations.ensures;
    }
