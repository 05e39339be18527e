use Rattle.mapping_growth.specs.Fields.{drafts_of}
use Rattle.mapping_growth.proofs.Conflicts.{kept_at}
use Rattle.mapping_growth.proofs.conflict.conflict_at.Goals as goal

pub is_otherwise-requires-clause-field : goal.is_otherwise-requires-clause-field
is_otherwise-requires-clause-field c =
    kept_at (drafts_of c.args.said.now) c.args.outlines.now c.outlines.outline-index c.outline-item.result c.in-Some.field c.requires.outlines c.outlines-test.true c.outline-item.is c.in-Some.is

pub returns-then-branch-clause-bound : goal.returns-then-branch-clause-bound
returns-then-branch-clause-bound c =
    kept_at (drafts_of c.args.said.now) c.args.outlines.now c.outlines.outline-index c.outline-item.result c.in-Some.field c.requires.outlines c.outlines-test.true c.outline-item.is c.in-Some.is
