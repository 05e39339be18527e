use Rattle.mapping_growth.proofs.Distinct.{filter_ascends}
use Rattle.mapping_growth.proofs.addition.names_added.Goals as goal

pub returns-clause-ascending : goal.returns-clause-ascending
returns-clause-ascending c = rw (c.in_ok-names_new.ensures, c.as_slice.ensures.value) (filter_ascends _ _ c.in_ok-all.ensures.ascending)
