use Rattle.std.proofs.Common.{ℕ, List, map, subst}
use Rattle.std.specs.Ordering.{nat_cmp}
use Rattle.std.proofs.lemmas.Cmp.{nat_cmp_total}
use Rattle.doc_values.specs.Text.{entry_text}
use Rattle.segment_builder.specs.Groups.{AreGroups}
use Rattle.segment_merge.specs.Pieces.{columns_of_parts, whole}
use Rattle.segment_merge.proofs.Gathering.{are_whole}
use Rattle.segment_merge.proofs.Pieced.{written_whole}
use Rattle.segment_merge.proofs.value_columns.put_columns.Goals as goal

pub returns : goal.returns
returns g c =
    let made = c.in_ok-put_by_field.ensures in (
      map whole made.0,
      are_whole nat_cmp nat_cmp_total (columns_of_parts g.T.MergedValue.columns g.T.MergedValue.renewed c.args.parts.now c.args.news.now) made.0
          (subst (λ (pieces : List (ℕ × List (ℕ × List g.row.T.Denot))). AreGroups nat_cmp pieces made.0) c.in_ok-pieces.ensures made.1),
      written_whole (entry_text g.T.ColumnValue.text) made.0 c.args.into.now.items c.put_by_field.new.into.items made.2,
    )
