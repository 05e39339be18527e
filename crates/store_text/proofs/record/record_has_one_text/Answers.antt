use Rattle.store_text.proofs.Whole.{one_text, length-record_text}
use Rattle.store_text.proofs.record.record_has_one_text.Goals as goal

pub returns-clause-once : goal.returns-clause-once
returns-clause-once c = one_text

pub returns-clause-size : goal.returns-clause-size
returns-clause-size c = length-record_text
