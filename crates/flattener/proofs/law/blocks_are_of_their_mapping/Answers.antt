use Rattle.flattener.proofs.Fitting.{block_fits_as_root}
use Rattle.flattener.proofs.law.blocks_are_of_their_mapping.Goals as goal

pub returns : goal.returns
returns c = block_fits_as_root
