use Rattle.std.proofs.Common.{◌≡◌, List, get_or, sym, subst}
use Rattle.flattener.specs.Block.{BlockState}
use Rattle.index_core.specs.Found.{block_numbers}
use Rattle.index_core.proofs.Places.{buffered_number}
use Rattle.index_core.proofs.place.BufferedNumbers.number.Goals as goal

pub returns-in-Some : goal.returns-in-Some
returns-in-Some c =
    subst (λ (bs : List BlockState). c.in-Some.block.now.root.number ≡ get_or (block_numbers bs) c.args.index 0) c.self.view_is
    (sym (buffered_number _ c.args.index c.in-Some.block.now c.in-Some.ensures.lookup.3.0 c.in-Some.ensures.lookup.1))
