use Rattle.std.proofs.Common.{sym}
use Rattle.query_ast.specs.Clause.View.{clause_of}
use Rattle.query_parser.proofs.Known.{only_one, not_one}
use Rattle.query_parser.proofs.built.built_in.Goals as goal

pub returns-in-len1 : goal.returns-in-len1
returns-in-len1 c =
    rw c.in-Query.is
    (sym (only_one c.as_slice.result.now c.args.object.now (clause_of c.in-Query.query.now) c.as_slice.ensures.members c.in-len1.len_at_least c.in-len1.len_below))

pub returns-in-len2-up : goal.returns-in-len2-up
returns-in-len2-up c =
    rw c.in-Query.is
    (sym (not_one c.as_slice.result.now c.args.object.now (clause_of c.in-Query.query.now) c.as_slice.ensures.members c.in-len2-up.len_at_least))
