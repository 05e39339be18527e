use Rattle.std.proofs.Common.{Err, ap}
use Rattle.machine.specs.MappingLine.{mapping_step}
use Rattle.machine.specs.State.{sealed_state}
use Rattle.tree_json.specs.View.{view}
use Rattle.engine.proofs.Answering.{refusal_ends}
use Rattle.engine.proofs.Lines.{first_refused}
use Rattle.engine.proofs.mapping_line.first_line.Goals as goal

pub returns-in-Err-Refused-clause-answers : goal.returns-in-Err-Refused-clause-answers
returns-in-Err-Refused-clause-answers c = λ state f.
    refusal_ends c.args.mapping.now c.args.index.now state (mapping_step (view c.args.body.now) (sealed_state state)) c.in-Err-Refused.why c.refuse.result c.refuse.new.out.bytes f
    (first_refused (view c.args.body.now) c.args.mapping.now c.args.index.now state c.in-Err-Refused.why c.requires.none f (c.in-Err-Refused.ensures.refused c.in-Err-Refused.why (ap Err c.in-Err-Refused.field-0-is)))
    c.refuse.ensures.refused
