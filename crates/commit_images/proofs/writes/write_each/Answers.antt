use Rattle.std.proofs.Common.{◌∙◌}
use Rattle.disk.specs.Moments.{passes_on}
use Rattle.commit_images.specs.Written.{turn_takes, turn_leaves, turn_left}
use Rattle.commit_images.proofs.writes.write_each.Goals as goal

pub returns-in_err-write_at-clause-images : goal.returns-in_err-write_at-clause-images
returns-in_err-write_at-clause-images g c =
    turn_left c.args.blocks.now c.writes.block-index _ (g.D.Disk.image c.args.disk.now) (g.D.Disk.image c.writes.disk) (g.D.Disk.image c.write_at.new.self)
    c.writes-test.true c.writes.invariant.2 c.write_at.ensures.images

pub returns-in_err-write_at-clause-time : goal.returns-in_err-write_at-clause-time
returns-in_err-write_at-clause-time g c =
    passes_on c.writes.invariant.3 c.write_at.ensures.time (λ image is. is)
    (turn_left c.args.blocks.now c.writes.block-index _ (g.D.Disk.image c.args.disk.now) (g.D.Disk.image c.writes.disk) (g.D.Disk.image c.write_at.new.self)
    c.writes-test.true c.writes.invariant.2 c.write_at.ensures.images)

pub writes-preserved : goal.writes-preserved
writes-preserved g c = (
  turn_takes c.args.blocks.now c.writes.block-index _ (g.D.Disk.content c.args.disk.now) (g.D.Disk.content c.writes.disk)
      (g.D.Disk.content c.write_at.new.self) c.writes-test.true c.writes.invariant.0 c.in_ok-write_at.ensures.content,
  λ told. c.writes.invariant.1 (c.write_at.ensures.told told),
  turn_leaves c.args.blocks.now c.writes.block-index _ (g.D.Disk.image c.args.disk.now) (g.D.Disk.image c.writes.disk) (g.D.Disk.image c.write_at.new.self)
      c.writes-test.true c.writes.invariant.2 c.write_at.ensures.images,
  passes_on c.writes.invariant.3 c.write_at.ensures.time (λ image is. is)
      (turn_left c.args.blocks.now c.writes.block-index _ (g.D.Disk.image c.args.disk.now) (g.D.Disk.image c.writes.disk) (g.D.Disk.image c.write_at.new.self)
      c.writes-test.true c.writes.invariant.2 c.write_at.ensures.images),
  c.in_ok-write_at.ensures.cause.0 ∙ c.writes.invariant.4,
)
