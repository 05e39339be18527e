use Rattle.std.proofs.Common.{◌≡◌, [], sym, append-nil}
use Rattle.tree_json.specs.Value.{members_of}
use Rattle.query_parser.specs.Sorts.{chain_under}
use Rattle.query_parser.proofs.Members.{chain_absent}
use Rattle.query_parser.proofs.sorts.+chain.Goals as goal

pub chain_under-returns-in-None : goal.chain_under-returns-in-None
chain_under-returns-in-None t c =
    let none : chain_under c.args.mapping.now c.args.scope (members_of c.args.nested.now) ≡ [] =
    chain_absent c.args.mapping.now c.args.scope (members_of c.args.nested.now) (sym c.in-None.ensures) in
    rw none (sym (append-nil _))
