use Rattle.std.proofs.Common.{◌≡◌, ◌<◌, ◌+◌, ◌-◌, ◌*◌, ◌++◌, ℕ, ℤ, Bool, true, false, cond, List, [], length, get_or, drop, sym, ap, subst, ◌∙◌, arith, append_assoc}
use Rattle.std.specs.List.{flat_map}
use Rattle.bucket_aggs.specs.Sums.{HasRoom, IsAdded}
use Rattle.bucket_aggs.specs.declared.metrics.Running.{Running}
use Rattle.bucket_aggs.proofs.Documents.{nothing_behind}
use Rattle.bucket_aggs.proofs.Sums.{room_less}
use Rattle.bucket_aggs.proofs.Told.{rows_told, told, told_end, told_next, told_skip}
use Rattle.bucket_aggs.proofs.metrics.with_rows.Goals.{then-is_in, else-is_in}
use Rattle.bucket_aggs.proofs.metrics.with_rows.Goals as goal

pub rows-preserved : goal.rows-preserved
rows-preserved c =
    let low : c.rows.row < length c.args.column.now = omega (arith, c.rows-test.true, c.rows-row-end.ensures.count) in
    let rest : List ℤ = flat_map (told c.args.set.now 0) (drop (c.rows.row + 1) c.args.column.now) in
    let was = c.rows.invariant.1 in
    let left : ℕ = (4294967295 - (c.rows.row + 1)) * 4294967296 in
    elim c.if-is_in.branch [
      | then-is_in w ↦
          let held : get_or c.args.set.now c.doc.result false ≡ true = sym c.is_in.ensures ∙ w.if-is_in.true in
          let step : flat_map (told c.args.set.now 0) (drop c.rows.row c.args.column.now) ≡ w.row_values.result ++ rest =
          told_next c.args.set.now c.args.column.now c.rows.row c.doc.result w.row_values.result low c.doc.ensures w.row_values.ensures
          ∙ ap (λ (b : Bool). cond b w.row_values.result [] ++ rest) held in (
            subst (λ (s : Running). HasRoom left s) (sym w.sums-is)
                (w.add_values.ensures.room left (room_less (left + 4294967296) ((4294967295 - c.rows.row) * 4294967296) c.rows.sums (omega (arith, c.rows-test.true, c.rows.auto.row-end)) c.rows.invariant.0)),
            (
              was.0 ++ w.row_values.result,
              subst (λ (s : Running). IsAdded c.args.start (was.0 ++ w.row_values.result) s) (sym w.sums-is) (w.add_values.ensures.added c.args.start was.0 was.1),
              append_assoc was.0 w.row_values.result rest ∙ ap (λ (l : List ℤ). was.0 ++ l) (sym step) ∙ was.2,
            ),
          )
      | else-is_in w ↦
          let failed : get_or c.args.set.now c.doc.result false ≡ false = sym c.is_in.ensures ∙ w.if-is_in.false in (
            subst (λ (s : Running). HasRoom left s) (sym w.sums-is) (room_less left ((4294967295 - c.rows.row) * 4294967296) c.rows.sums (omega arith) c.rows.invariant.0),
            (
              was.0,
              subst (λ (s : Running). IsAdded c.args.start was.0 s) (sym w.sums-is) was.1,
              ap (λ (l : List ℤ). was.0 ++ l) (sym (told_skip c.args.set.now c.args.column.now c.rows.row c.doc.result low c.doc.ensures failed)) ∙ was.2,
            ),
          )
    ]

pub returns : goal.returns
returns c =
    let was = c.rows.invariant.1 in
    let all : List ℤ = flat_map (told c.args.set.now 0) c.args.column.now in
    let done : was.0 ≡ all =
    nothing_behind was.0
    ∙ ap (λ (l : List ℤ). was.0 ++ l) (sym (told_end c.args.set.now c.args.column.now c.rows.row (omega (arith, c.rows-test.false, c.rows-row-end.ensures.count))))
    ∙ was.2 in
    subst (λ (l : List ℤ). IsAdded c.args.start l c.rows.sums) (done ∙ sym (rows_told c.args.set.now c.args.column.now c.rows-row-end.ensures.ascending)) was.1
