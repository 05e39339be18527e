use Rattle.std.proofs.Common.{◌≡◌, ◌+◌, ◌≤◌, ◌<◌, ◌∙◌, Some, sym, ap, map, not, length, arith}
use Rattle.std.proofs.lemmas.List.{length-map}
use Rattle.mapping_growth.specs.Kept.{relation_of}
use Rattle.mapping_growth.specs.Relations.{parent_of}
use Rattle.mapping_growth.proofs.Climbs.{climbed_more, ended_there, turns_at}
use Rattle.mapping_growth.proofs.ancestor.line_ends.Goals as goal

pub returns-then-is_ended-clause-ends : goal.returns-then-is_ended-clause-ends
returns-then-is_ended-clause-ends c = λ _.
    ended_there (map relation_of c.args.relations.now) c.args.marks.now c.args.number c.line.steps c.line.at c.requires c.line.invariant.1 (sym c.is_ended.ensures ∙ c.if-is_ended.true)

pub line-preserved : goal.line-preserved
line-preserved c = (
  omega (arith, c.line-test.true),
  climbed_more (map relation_of c.args.relations.now) c.line.steps (Some c.args.number) ∙ ap (parent_of (map relation_of c.args.relations.now)) c.line.invariant.1 ∙ sym c.parent_of-at.ensures,
)

pub returns-clause-turns : goal.returns-clause-turns
returns-clause-turns c = λ going.
    turns_at (map relation_of c.args.relations.now) (length c.args.relations.now) c.args.number c.line.steps c.line.at (length-map c.args.relations.now relation_of)
    c.line-test.false c.line.invariant.0 c.line.invariant.1 (c.is_none.ensures ∙ ap not going)
