use Rattle.flattener.proofs.Further.{block_of_same, block_same, entry_same}
use Rattle.flattener.proofs.FitsFurther.{segment_fits_further}
use Rattle.flattener.proofs.law.further_bodies_leave_blocks.Goals as goal

pub returns-clause-entry : goal.returns-clause-entry
returns-clause-entry c = λ m m2 columns bits trees is has old stands.
    entry_same m m2 columns bits trees is has
    (record {
      objects = λ tree before. c.further_bodies_leave_trees.ensures.objects m m2 tree stands.mapping is has before;
      shown = λ f o h. c.further_bodies_leave_trees.ensures.values m m2 f o stands.mapping has h;
      later = λ f o before h k. c.further_bodies_leave_trees.ensures.later m m2 f o has before h k;
      join = λ tree before. c.further_bodies_leave_trees.ensures.join m m2 tree has before;
      faults = λ g source before. c.further_bodies_leave_trees.ensures.faults m m2 g source has before;
    }) old stands

pub returns-clause-segment : goal.returns-clause-segment
returns-clause-segment c = segment_fits_further

pub returns-clause-block : goal.returns-clause-block
returns-clause-block c = λ m m2 block is is2 has fits.
    block_same m m2 block has
    (record {
      objects = λ tree before. c.further_bodies_leave_trees.ensures.objects m m2 tree is is2 has before;
      shown = λ f o h. c.further_bodies_leave_trees.ensures.values m m2 f o is has h;
      later = λ f o before h k. c.further_bodies_leave_trees.ensures.later m m2 f o has before h k;
      join = λ tree before. c.further_bodies_leave_trees.ensures.join m m2 tree has before;
      faults = λ g source before. c.further_bodies_leave_trees.ensures.faults m m2 g source has before;
    }) fits

pub returns-clause-same : goal.returns-clause-same
returns-clause-same c = λ m m2 tree is is2 has old.
    block_of_same m m2 tree has
    (record {
      objects = λ tree before. c.further_bodies_leave_trees.ensures.objects m m2 tree is is2 has before;
      shown = λ f o h. c.further_bodies_leave_trees.ensures.values m m2 f o is has h;
      later = λ f o before h k. c.further_bodies_leave_trees.ensures.later m m2 f o has before h k;
      join = λ tree before. c.further_bodies_leave_trees.ensures.join m m2 tree has before;
      faults = λ g source before. c.further_bodies_leave_trees.ensures.faults m m2 g source has before;
    }) old
