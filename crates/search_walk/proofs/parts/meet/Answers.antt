use Rattle.std.proofs.Common.{sym}
use Rattle.search_walk.specs.View.{node_of}
use Rattle.search_walk.specs.Walk.{walk_of}
use Rattle.search_walk.proofs.Walked.{walked_one}
use Rattle.search_walk.proofs.parts.meet.Goals as goal

pub returns : goal.returns
returns c =
    rw (c.fault_with-walk.ensures, c.in_ok-put_name.ensures, c.in_ok-walk.ensures, c.has_large_window.ensures, c.is_deep.ensures, c.has_many_terms.ensures)
    (sym (walked_one c.args.mapping.now (walk_of c.args.walk.now) (node_of c.args.node.now)))
