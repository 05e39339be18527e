use Rattle.line_reader.specs.View.{source_line_of}
use Rattle.request_form.specs.Asked.{asked_of}
use Rattle.request_form.proofs.request.asked.Goals as goal

pub returns-in-Err-clause-refused : goal.returns-in-Err-clause-refused
unfolding asked_of
returns-in-Err-clause-refused c = rw (c.in-Whole.is) (c.in-Err.ensures.refused.refuses (source_line_of c.args.second))
