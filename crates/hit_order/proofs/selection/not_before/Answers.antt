use Rattle.std.proofs.Common.{◌≡◌, ◌++◌, [], drop, filter, length, refl, arith, ap, sym, ◌∙◌}
use Rattle.std.specs.Prelude.{not}
use Rattle.std.proofs.lemmas.List.{append-nil, drop_all}
use Rattle.std.proofs.lemmas.List.Filters.{length-filter_both}
use Rattle.hit_order.specs.Indexed.{is_before}
use Rattle.hit_order.proofs.selection.not_before.Goals as goal

pub returns-clause-parts : goal.returns-clause-parts
returns-clause-parts c =
    let rows = c.args.rows.now in
    let left : drop c.rows.row-index rows ≡ [] = drop_all c.rows.row-index rows (omega (arith, c.rows-test.false)) in
    let rest : c.rows.rest.items ≡ filter (λ row. not (is_before c.args.table.now row c.args.first)) rows =
    sym (append-nil c.rows.rest.items) ∙ (sym (ap (λ l. c.rows.rest.items ++ filter (λ row. not (is_before c.args.table.now row c.args.first)) l) left) ∙ c.rows.invariant) in
    omega (
      arith,
      length-filter_both (λ row. is_before c.args.table.now row c.args.first) (λ row. not (is_before c.args.table.now row c.args.first)) (λ row. refl) rows,
      ap length rest,
    )
