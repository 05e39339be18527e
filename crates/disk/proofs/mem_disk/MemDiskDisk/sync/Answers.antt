use Rattle.disk.proofs.Clauses.{synced_content, synced_only, synced_images, synced_allowed}
use Rattle.disk.proofs.mem_disk.MemDiskDisk.sync.Goals as goal

pub returns-clause-content : goal.returns-clause-content
returns-clause-content c = synced_content c.args.self.now c.synced.new.self c.synced.result c.synced.ensures

pub returns-clause-only : goal.returns-clause-only
returns-clause-only c = synced_only c.args.self.now c.synced.new.self c.synced.result c.synced.ensures

pub returns-clause-images : goal.returns-clause-images
returns-clause-images c = synced_images c.args.self.now c.synced.new.self c.synced.result c.synced.ensures

pub returns-clause-allowed : goal.returns-clause-allowed
returns-clause-allowed c = synced_allowed c.args.self.now c.synced.new.self c.synced.result c.synced.ensures
