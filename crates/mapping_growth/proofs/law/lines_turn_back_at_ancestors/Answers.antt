use Rattle.mapping_growth.proofs.Climbs.{founded_ends, not_itself}
use Rattle.mapping_growth.proofs.law.lines_turn_back_at_ancestors.Goals as goal

pub returns-clause-founded : goal.returns-clause-founded
returns-clause-founded c = not_itself

pub returns-clause-found : goal.returns-clause-found
returns-clause-found c = founded_ends
