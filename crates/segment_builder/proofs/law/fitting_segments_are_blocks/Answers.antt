use Rattle.segment_builder.proofs.Blocked.{blocks_fit, flats_again, roots_again}
use Rattle.segment_builder.proofs.law.fitting_segments_are_blocks.Goals as goal

pub returns-clause-roots : goal.returns-clause-roots
returns-clause-roots c = λ m columns fits. blocks_fit m columns fits

pub returns-clause-flats : goal.returns-clause-flats
returns-clause-flats c = λ m columns fits. flats_again m columns fits

pub returns-clause-same : goal.returns-clause-same
returns-clause-same c = λ m columns fits. roots_again m columns fits
