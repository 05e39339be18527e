use Rattle.std.proofs.Common.{◌≡◌, ℕ, ◌-◌, ◌+◌, ◌<◌, List, get_or, ap, arith, inl, inr}
use Rattle.std.proofs.lemmas.Bool.{false≢true, cases_lt}
use Rattle.std.proofs.lemmas.Grind.{common_steps}
use Rattle.std.proofs.lemmas.List.{length-map}
use Rattle.doc_values.specs.Values.{documents}
use Rattle.doc_values.specs.Stands.{IsRow}
use Rattle.doc_values.proofs.Lookups.{documents_at, rising_more, one_more}
use Rattle.doc_values.proofs.rows.RowList.are_entries.Goals as goal
use Rattle.doc_values.proofs.rows.RowList.are_entries.Goals.{else-at-gt0-via-then-at-gt0+else-rows-at, else-at-gt0-via-else-at-gt0}

pub returns-then-rows-at-clause-ascending : goal.returns-then-rows-at-clause-ascending
returns-then-rows-at-clause-ascending g c =
    let rows = c.args.rows.now in
    let at = c.rows.at in
    let last = documents_at rows at c.index-rows-at-then-at-gt0.result c.rows-test.true in
    let first = documents_at rows (at - 1) c.index-rows-at-then-at-gt0-2.result (omega (arith, c.rows-test.true)) in (
      λ no. absurd (false≢true no),
      λ all.
          let rises : get_or (documents rows) (at - 1) 0 < get_or (documents rows) (at - 1 + 1) 0 = all.2 (at - 1) (rw length-map (omega (arith, c.rows-test.true, c.if-at-gt0.true))) in
          let same : get_or (documents rows) (at - 1 + 1) 0 ≡ get_or (documents rows) at 0 = ap (λ i. get_or (documents rows) i 0) (omega (arith, c.if-at-gt0.true)) in
          absurd (omega (arith, rises, same, last, first, c.if-rows-at.true)),
    )

pub rows-preserved : goal.rows-preserved
rows-preserved g c =
    let rows = c.args.rows.now in
    let at = c.rows.at in (
      elim c.else-at-gt0.branch [
        | else-at-gt0-via-then-at-gt0+else-rows-at w ↦
            let last = documents_at rows at w.index-rows-at-then-at-gt0.result c.rows-test.true in
            let first = documents_at rows (at - 1) w.index-rows-at-then-at-gt0-2.result (omega (arith, c.rows-test.true)) in
            rising_more (documents rows) at (omega (arith, w.if-at-gt0.true)) c.rows.invariant.0 (omega (arith, last, first, w.if-rows-at.false))
        | else-at-gt0-via-else-at-gt0 w ↦ λ k below. absurd (omega (arith, w.if-at-gt0.false))
      ],
      λ k d below. elim (cases_lt k at) [
        | inl earlier ↦ c.rows.invariant.1 k d earlier
        | inr from ↦ one_more (IsRow g.T.Ord.cmp g.T.ColumnValue.Fits) rows at k c.index-rows-at.result d c.rows-test.true c.index-rows-at.is c.is_row.ensures from below
      ],
    )

pub returns-clause-are : goal.returns-clause-are
returns-clause-are g c = λ yes.
    let rows = c.args.rows.now in
    record {
      some = grind (arith, common_steps);
      rows_are = record {
        fewer = grind (arith, common_steps);
        ascending = λ k below. c.rows.invariant.0 k (omega (arith, below, c.rows-test.false, length-map rows (λ (row : ℕ × List g.row.T.Denot). row.0)));
        valued = λ k d below. (c.rows.invariant.1 k d (omega (arith, below, c.rows-test.false))).valued;
      };
      numbered = λ k d below. (c.rows.invariant.1 k d (omega (arith, below, c.rows-test.false))).numbered;
      fit = λ k d below. (c.rows.invariant.1 k d (omega (arith, below, c.rows-test.false))).fit;
    }
