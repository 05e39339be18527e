use Rattle.query_ast.proofs.Orders.{rows_rank}
use Rattle.query_ast.proofs.RowLaws.{part}
use Rattle.query_ast.proofs.Sorting.{in_order_has, in_order_rises, in_order_ties, rising_is_sorted, sorted_is_in_order}
use Rattle.query_ast.specs.Compare.{in_order}
use Rattle.query_ast.specs.Page.{comes_before}
use Rattle.query_ast.proofs.law.rows_stand_in_order.Goals as goal

pub returns-clause-order : goal.returns-clause-order
returns-clause-order g c = λ keys number directions. rows_rank keys number directions

pub returns-clause-rows : goal.returns-clause-rows
returns-clause-rows g c = λ keys number directions rows. in_order_has (comes_before keys number directions) rows

pub returns-clause-sorted : goal.returns-clause-sorted
returns-clause-sorted g c = λ keys number directions rows.
    rising_is_sorted (comes_before keys number directions) (in_order (comes_before keys number directions) rows)
    (in_order_rises (rows_rank keys number directions) rows)

pub returns-clause-stable : goal.returns-clause-stable
returns-clause-stable g c = λ keys number directions rows. in_order_ties (rows_rank keys number directions) rows

pub returns-clause-only : goal.returns-clause-only
returns-clause-only g c = λ keys number directions rows sorted. sorted_is_in_order (rows_rank keys number directions) rows sorted

pub returns-clause-part : goal.returns-clause-part
returns-clause-part g c = λ keys number directions. part keys number directions
