use Rattle.segment.proofs.Within.{last_within}
use Rattle.segment.proofs.agree.are_within.Goals as goal

pub returns-else-rows-eq0 : goal.returns-else-rows-eq0
returns-else-rows-eq0 g c = last_within c.args.column.now c.rows-rows.result c.args.documents c.doc.result c.rows-rows.ensures.ascending c.rows-rows.ensures.count c.if-rows-eq0.false c.doc.ensures
