use Rattle.index_trees.proofs.Opened.{content_opened, faithful_is, good_is, starts_so}
use Rattle.index_trees.proofs.law.an_opened_store_stands_for_its_trees.Goals as goal

pub returns-clause-faithful : goal.returns-clause-faithful
returns-clause-faithful c = faithful_is

pub returns-clause-good : goal.returns-clause-good
returns-clause-good c = good_is

pub returns-clause-content : goal.returns-clause-content
returns-clause-content c = content_opened

pub returns-clause-starts : goal.returns-clause-starts
returns-clause-starts c = starts_so
