use Rattle.store_text.proofs.Whole.{size_put}
use Rattle.store_text.proofs.written.put_record.Goals as goal

pub returns-else-is_err-clause-size : goal.returns-else-is_err-clause-size
returns-else-is_err-clause-size c = size_put c.put_whole-done.result c.args.into.now.items c.put_whole-done.new.into.items c.args.it.now c.requires.form c.put_whole-done.ensures.put
