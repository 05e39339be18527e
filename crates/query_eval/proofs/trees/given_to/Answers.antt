use Rattle.std.proofs.Common.{Some, sym, ◌∙◌}
use Rattle.query_eval.proofs.Telling.{given_none, given_nothing, given_off, given_some}
use Rattle.query_eval.proofs.trees.given_to.Goals as goal

pub returns-in_default-clause-given : goal.returns-in_default-clause-given
returns-in_default-clause-given c = λ asked pairs was.
    given_none c.args.mapping.now c.args.joins.now c.args.side c.args._segment.now c.args.place c.args.root asked pairs c.requires.root (sym c.ordinal_by.ensures ∙ c.in_default.is)

pub returns-else-is_kept_on-clause-given : goal.returns-else-is_kept_on-clause-given
returns-else-is_kept_on-clause-given c = λ asked pairs was.
    given_off c.args.mapping.now c.args.joins.now c.args.side c.args._segment.now c.args.place c.args.root asked pairs c.in-Some.ordinal c.requires.root c.requires.relations (sym c.ordinal_by.ensures ∙ c.in-Some.is) (sym c.is_kept_on.ensures ∙ c.if-is_kept_on.false)

pub returns-in_default-given-clause-given : goal.returns-in_default-given-clause-given
returns-in_default-given-clause-given c = λ asked pairs was.
    given_nothing c.args.mapping.now c.args.joins.now c.args.side c.args._segment.now c.args.place c.args.root asked pairs c.in-Some.ordinal c.requires.root (sym c.ordinal_by.ensures ∙ c.in-Some.is)
    (sym c.in_default-given.is ∙ c.given.ensures.given asked pairs was)

pub returns-then-is_kept_on-clause-given : goal.returns-then-is_kept_on-clause-given
returns-then-is_kept_on-clause-given c = λ asked pairs was.
    given_some c.args.mapping.now c.args.joins.now c.args.side c.args._segment.now c.args.place c.args.root asked pairs c.in-Some.ordinal (Some c.in-Some-given.score) c.requires.root c.requires.relations
    (sym c.ordinal_by.ensures ∙ c.in-Some.is) (sym c.is_kept_on.ensures ∙ c.if-is_kept_on.true) (sym c.in-Some-given.is ∙ c.given.ensures.given asked pairs was)
