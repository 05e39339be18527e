use Rattle.std.proofs.Common.{true, map}
use Rattle.commit_images.specs.Writes.{piece_of, LeftBy}
use Rattle.commit_images.specs.Written.{left_preserves}
use Rattle.commit_images.specs.Going.{some_image, step_preserved}
use Rattle.commit_images.proofs.steps.write_extents.Goals as goal

pub returns-in_err-write_each-clause-step : goal.returns-in_err-write_each-clause-step
returns-in_err-write_each-clause-step g c = λ told limit active free keeps.
    let left = left_preserves active true (map piece_of c.args.extents.now) (g.D.Disk.image c.args.disk.now) free keeps.each in
    step_preserved (g.S.Saying.IsGood limit) active (g.D.Disk.image c.args.disk.now) (g.D.Disk.image c.write_each.new.disk) (LeftBy (map piece_of c.args.extents.now) (g.D.Disk.image c.args.disk.now)) keeps
    (λ image is. left image (c.write_each.ensures.images image is)) left
    (some_image (g.D.Disk.content c.write_each.new.disk) (g.D.Disk.image c.write_each.new.disk) (g.met.D.Disk.gives_image c.write_each.new.disk) told)
    c.write_each.ensures.time

pub returns-clause-step : goal.returns-clause-step
returns-clause-step g c = λ told limit active free keeps.
    let left = left_preserves active true (map piece_of c.args.extents.now) (g.D.Disk.image c.args.disk.now) free keeps.each in
    step_preserved (g.S.Saying.IsGood limit) active (g.D.Disk.image c.args.disk.now) (g.D.Disk.image c.write_each.new.disk) (LeftBy (map piece_of c.args.extents.now) (g.D.Disk.image c.args.disk.now)) keeps
    (λ image is. left image (c.write_each.ensures.images image is)) left
    (some_image (g.D.Disk.content c.write_each.new.disk) (g.D.Disk.image c.write_each.new.disk) (g.met.D.Disk.gives_image c.write_each.new.disk) told)
    c.write_each.ensures.time
