use Rattle.std.proofs.Common.{◌≡◌, ◌-◌, min, Ok, Err, length, take, drop, List, ℕ, ap, subst, ◌∙◌, arith}
use Rattle.disk.specs.Record.{DiskState, content_of}
use Rattle.disk.proofs.Clauses.{looked_content, looked_images, looked_allowed, content_looked, front_told}
use Rattle.disk.proofs.mem_disk.MemDiskDisk.read.Goals as goal

pub returns-in-Err-clause-content : goal.returns-in-Err-clause-content
returns-in-Err-clause-content c =
    looked_content c.args.self.now c.looked.new.self (Err c.in-Err.field-0) c.in-Err.ensures.turn

pub returns-in-Err-clause-images : goal.returns-in-Err-clause-images
returns-in-Err-clause-images c = looked_images c.args.self.now c.looked.new.self c.looked.result c.looked.ensures.turn

pub returns-in-Err-clause-allowed : goal.returns-in-Err-clause-allowed
returns-in-Err-clause-allowed c = looked_allowed c.args.self.now c.looked.new.self c.looked.result c.looked.ensures.turn

pub returns-clause-content : goal.returns-clause-content
returns-clause-content c = looked_content c.args.self.now c.looked.new.self (Ok c.in-Ok.field-0) c.in-Ok.ensures.turn

pub returns-clause-images : goal.returns-clause-images
returns-clause-images c = looked_images c.args.self.now c.looked.new.self c.looked.result c.looked.ensures.turn

pub returns-clause-allowed : goal.returns-clause-allowed
returns-clause-allowed c = looked_allowed c.args.self.now c.looked.new.self c.looked.result c.looked.ensures.turn

pub returns-clause-most : goal.returns-clause-most
returns-clause-most c =
    let same : content_of c.self.inside.file ≡ content_of c.args.self.now.file =
    ap (λ (disk : DiskState). content_of disk.file) c.self.view_is
    ∙ content_looked c.args.self.now c.looked.new.self c.in-Ok.field-0 c.in-Ok.ensures.turn in
    subst (λ (bytes : List ℕ). c.read.result ≡ min (length c.args.into.now) (length bytes - c.args.at)) same c.read.ensures.most

pub returns-clause-front : goal.returns-clause-front
returns-clause-front c =
    let same : content_of c.self.inside.file ≡ content_of c.args.self.now.file =
    ap (λ (disk : DiskState). content_of disk.file) c.self.view_is
    ∙ content_looked c.args.self.now c.looked.new.self c.in-Ok.field-0 c.in-Ok.ensures.turn in
    subst (λ (bytes : List ℕ). take c.read.result c.read.new.into ≡ take c.read.result (drop c.args.at bytes)) same c.read.ensures.bytes

pub returns-clause-bytes : goal.returns-clause-bytes
returns-clause-bytes c =
    let most : c.read.result ≡ min (length c.args.into.now) (length (content_of c.args.self.now.file) - c.args.at) = returns-clause-most c in
    front_told c.args.self.now c.args.at c.read.result c.read.new.into (omega arith) (returns-clause-front c)
