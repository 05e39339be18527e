use Rattle.disk.proofs.Clauses.{cut_content, cut_images, cut_allowed}
use Rattle.disk.proofs.mem_disk.MemDiskDisk.cut.Goals as goal

pub returns-clause-content : goal.returns-clause-content
returns-clause-content c = cut_content c.args.len c.args.self.now c.cut_short.new.self c.cut_short.result c.cut_short.ensures

pub returns-clause-images : goal.returns-clause-images
returns-clause-images c = cut_images c.args.len c.args.self.now c.cut_short.new.self c.cut_short.result c.cut_short.ensures

pub returns-clause-allowed : goal.returns-clause-allowed
returns-clause-allowed c = cut_allowed c.args.len c.args.self.now c.cut_short.new.self c.cut_short.result c.cut_short.ensures
