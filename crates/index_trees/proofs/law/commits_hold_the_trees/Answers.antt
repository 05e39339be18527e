use Rattle.index_trees.proofs.Content.{content_is, content_once}
use Rattle.index_trees.proofs.law.commits_hold_the_trees.Goals as goal

pub returns-clause-content : goal.returns-clause-content
returns-clause-content c = content_is

pub returns-clause-once : goal.returns-clause-once
returns-clause-once c = content_once
