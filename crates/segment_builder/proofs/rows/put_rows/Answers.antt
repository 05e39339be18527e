use Rattle.std.proofs.Common.{◌+◌, ◌++◌, drop, length, map, refl, ap, subst, ◌∙◌, arith, length-drop}
use Rattle.std.proofs.lemmas.List.{map-append}
use Rattle.std.specs.List.{AllByRecursion}
use Rattle.term_table.specs.Part.{row_text, IsRow}
use Rattle.segment_builder.specs.Columns.{terms_in, terms_lent}
use Rattle.segment_builder.specs.Terms.{field_rows, term_entry}
use Rattle.segment_builder.proofs.Among.{goes_on}
use Rattle.segment_builder.proofs.Lent.{row_at}
use Rattle.segment_builder.proofs.Listed.{put_one}
use Rattle.segment_builder.proofs.rows.put_rows.Goals as goal

pub run_len-count-requires : goal.run_len-count-requires
run_len-count-requires g c =
    rw c.bytes-bytes.ensures
    (row_at g.T.Term.bytes g.T.Term.positions c.args.field c.args.entries.now c.split_at.result.1.now c.rows.at _ c.index-entries-at.result c.rows-test.true c.split_at.ensures.back refl).0

pub put_row-requires : goal.put_row-requires
put_row-requires g c =
    let seen = term_entry g.T.Term.bytes g.T.Term.positions in
    let here = row_at g.T.Term.bytes g.T.Term.positions c.args.field c.args.entries.now c.split_at.result.1.now c.rows.at c.run_len-count.result _ c.rows-test.true c.split_at.ensures.back (rw c.bytes-bytes.ensures at c.run_len-count.ensures.run) in
    rw (c.bytes-bytes.ensures, c.split_at-in-rows.ensures.front) (subst (AllByRecursion IsRow) here.1 c.rows.invariant.1).0

pub rows-smaller : goal.rows-smaller
rows-smaller g c =
    let seen = term_entry g.T.Term.bytes g.T.Term.positions in
    let here = row_at g.T.Term.bytes g.T.Term.positions c.args.field c.args.entries.now c.split_at.result.1.now c.rows.at c.run_len-count.result _ c.rows-test.true c.split_at.ensures.back (rw c.bytes-bytes.ensures at c.run_len-count.ensures.run) in
    omega (arith, here.0, c.rows-test.true)

pub rows-preserved : goal.rows-preserved
rows-preserved g c =
    let seen = term_entry g.T.Term.bytes g.T.Term.positions in
    let here = row_at g.T.Term.bytes g.T.Term.positions c.args.field c.args.entries.now c.split_at.result.1.now c.rows.at c.run_len-count.result _ c.rows-test.true c.split_at.ensures.back (rw c.bytes-bytes.ensures at c.run_len-count.ensures.run) in
    let left = field_rows c.args.field (map seen (drop c.rows.at c.args.entries.now)) in
    let rest = field_rows c.args.field (map seen (drop (c.rows.at + c.run_len-count.result) c.args.entries.now)) in (
      omega (arith, c.rows-test.true, c.run_len-count.ensures.within, ap length c.split_at.ensures.back, length-drop c.rows.at c.args.entries.now),
      (subst (AllByRecursion IsRow) here.1 c.rows.invariant.1).1,
      put_one row_text c.rows.into.items c.put_row.new.into.items _ _ left rest here.1 (rw (c.bytes-bytes.ensures, c.split_at-in-rows.ensures.front) at c.in_ok-put_row.ensures) c.rows.invariant.2,
      goes_on (terms_lent c.rows.terms.items) (terms_in left) (terms_lent c.push.new.self.items) (terms_in rest) (terms_lent c.args.terms.now.items ++ terms_in (field_rows c.args.field (map seen c.args.entries.now))) _
          (ap terms_in here.1)
          (ap terms_lent c.in_ok-push.ensures.items ∙ map-append (λ term. (term.0, term.1.now)) c.rows.terms.items _ ∙ rw c.bytes-bytes.ensures refl)
          c.rows.invariant.3,
    )
