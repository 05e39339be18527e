use Rattle.std.proofs.Common.{sym}
use Rattle.tree_json.specs.Value.{members_of}
use Rattle.flattener.proofs.Gathers.{none_more}
use Rattle.flattener.proofs.gather.+gathers.Goals as goal

pub gather_member-returns-in-None : goal.gather_member-returns-in-None
gather_member-returns-in-None t c = none_more _ (members_of c.args.within.now) c.args.path.now (rw c.first_name.ensures.name at (sym c.in-None.ensures))
