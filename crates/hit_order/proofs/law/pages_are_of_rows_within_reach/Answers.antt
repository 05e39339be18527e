use Rattle.std.proofs.Common.{◌∷◌}
use Rattle.hit_order.specs.Table.{keys_of_row, number_of_row}
use Rattle.hit_order.proofs.Reaching.{key_order, page_within}
use Rattle.hit_order.proofs.law.pages_are_of_rows_within_reach.Goals as goal

pub returns : goal.returns
returns c = λ d ds after bound most from size rows wide within.
    page_within d ds (c.rows_stand_in_order.ensures.order keys_of_row number_of_row (d ∷ ds)) (key_order d c.rows_stand_in_order-2.ensures.order) after bound most from size rows wide within
