use Rattle.stored_sources.specs.Old.{old_root_once}
use Rattle.stored_sources.proofs.old.old_roots_have_one_text.Goals as goal

pub returns : goal.returns
returns c = old_root_once
