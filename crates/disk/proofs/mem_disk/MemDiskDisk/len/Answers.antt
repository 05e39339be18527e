use Rattle.disk.proofs.Clauses.{looked_content, looked_images, looked_allowed}
use Rattle.disk.proofs.mem_disk.MemDiskDisk.len.Goals as goal

pub returns-clause-content : goal.returns-clause-content
returns-clause-content c = looked_content c.args.self.now c.looked.new.self c.looked.result c.looked.ensures.turn

pub returns-clause-images : goal.returns-clause-images
returns-clause-images c = looked_images c.args.self.now c.looked.new.self c.looked.result c.looked.ensures.turn

pub returns-clause-allowed : goal.returns-clause-allowed
returns-clause-allowed c = looked_allowed c.args.self.now c.looked.new.self c.looked.result c.looked.ensures.turn
