use Rattle.disk.proofs.Clauses.{wrote_content, wrote_images, wrote_allowed}
use Rattle.disk.proofs.mem_disk.MemDiskDisk.write_at.Goals as goal

pub returns-clause-content : goal.returns-clause-content
returns-clause-content c = wrote_content c.args.at c.args.bytes.now c.args.self.now c.wrote.new.self c.wrote.result c.wrote.ensures

pub returns-clause-images : goal.returns-clause-images
returns-clause-images c = wrote_images c.args.at c.args.bytes.now c.args.self.now c.wrote.new.self c.wrote.result c.wrote.ensures

pub returns-clause-allowed : goal.returns-clause-allowed
returns-clause-allowed c = wrote_allowed c.args.at c.args.bytes.now c.args.self.now c.wrote.new.self c.wrote.result c.wrote.ensures
