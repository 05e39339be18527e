use Rattle.std.proofs.Common.{ap}
use Rattle.tree_json.specs.Value.{members_of}
use Rattle.search_walk.specs.Node.{nodes_of}
use Rattle.search_walk.specs.Walk.{Walk, walk_of}
use Rattle.search_walk.proofs.Walked.{walked_from}
use Rattle.search_walk.proofs.parts.walk_over.Goals as goal

pub returns-clause-fault : goal.returns-clause-fault
returns-clause-fault c =
    ap (λ (w : Walk). w.fault)
    (walked_from c.args.mapping.now (nodes_of c.args.mapping.now (members_of c.args.members.now)) (walk_of c.new-walk.result) (walk_of c.body_nodes.new.walk)
    c.new-walk.ensures c.in_ok-body_nodes.ensures)

pub returns-clause-names : goal.returns-clause-names
returns-clause-names c =
    ap (λ (w : Walk). w.names)
    (walked_from c.args.mapping.now (nodes_of c.args.mapping.now (members_of c.args.members.now)) (walk_of c.new-walk.result) (walk_of c.body_nodes.new.walk)
    c.new-walk.ensures c.in_ok-body_nodes.ensures)

pub returns-clause-clauses : goal.returns-clause-clauses
returns-clause-clauses c =
    ap (λ (w : Walk). w.clauses)
    (walked_from c.args.mapping.now (nodes_of c.args.mapping.now (members_of c.args.members.now)) (walk_of c.new-walk.result) (walk_of c.body_nodes.new.walk)
    c.new-walk.ensures c.in_ok-body_nodes.ensures)

pub returns-clause-large : goal.returns-clause-large
returns-clause-large c =
    ap (λ (w : Walk). w.has_large_window)
    (walked_from c.args.mapping.now (nodes_of c.args.mapping.now (members_of c.args.members.now)) (walk_of c.new-walk.result) (walk_of c.body_nodes.new.walk)
    c.new-walk.ensures c.in_ok-body_nodes.ensures)

pub returns-clause-deep : goal.returns-clause-deep
returns-clause-deep c =
    ap (λ (w : Walk). w.is_deep)
    (walked_from c.args.mapping.now (nodes_of c.args.mapping.now (members_of c.args.members.now)) (walk_of c.new-walk.result) (walk_of c.body_nodes.new.walk)
    c.new-walk.ensures c.in_ok-body_nodes.ensures)

pub returns-clause-terms : goal.returns-clause-terms
returns-clause-terms c =
    ap (λ (w : Walk). w.has_many_terms)
    (walked_from c.args.mapping.now (nodes_of c.args.mapping.now (members_of c.args.members.now)) (walk_of c.new-walk.result) (walk_of c.body_nodes.new.walk)
    c.new-walk.ensures c.in_ok-body_nodes.ensures)
