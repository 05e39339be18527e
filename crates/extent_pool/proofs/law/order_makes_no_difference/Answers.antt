use Rattle.extent_pool.proofs.Orders.{same_holes, same_fit, same_placed, same_room, same_moved}
use Rattle.extent_pool.proofs.law.order_makes_no_difference.Goals as goal

pub returns-clause-holes : goal.returns-clause-holes
returns-clause-holes c = same_holes

pub returns-clause-fit : goal.returns-clause-fit
returns-clause-fit c = same_fit

pub returns-clause-placed : goal.returns-clause-placed
returns-clause-placed c = same_placed

pub returns-clause-room : goal.returns-clause-room
returns-clause-room c = same_room

pub returns-clause-moved : goal.returns-clause-moved
returns-clause-moved c = same_moved
