use Rattle.std.proofs.Common.{map}
use Rattle.commit_images.specs.Going.{step_on}
use Rattle.commit_images.specs.Writes.{piece_of as block_piece}
use Rattle.commit_store.proofs.Standing.{all_stand}
use Rattle.commit_store.proofs.finish.make_ready.Goals as goal

pub returns-in_err-write_extents-clause-step : goal.returns-in_err-write_extents-clause-step
returns-in_err-write_extents-clause-step g c = λ told limit found side free keeps. c.write_extents.ensures.step told limit found free keeps

pub returns-in_err-write_slot-clause-step : goal.returns-in_err-write_slot-clause-step
returns-in_err-write_slot-clause-step g c = λ told limit found side free keeps.
    let first = c.write_extents.ensures.step (c.write_slot.ensures.told told) limit found free keeps in
    step_on first (c.write_slot.ensures.step told limit found side first.keeps) (λ image it. it) (λ image it. it)

pub returns-clause-step : goal.returns-clause-step
returns-clause-step g c = λ told limit found side free keeps.
    let first = c.write_extents.ensures.step (c.write_slot.ensures.told told) limit found free keeps in
    step_on first (c.write_slot.ensures.step told limit found side first.keeps) (λ image it. it) (λ image it. it)

pub returns-clause-ready : goal.returns-clause-ready
returns-clause-ready g c = λ told limit found new side whole slot keeps.
    let mid = c.write_slot.ensures.told told in
    let first = c.write_extents.ensures.step mid limit found whole.free keeps in
    c.in_ok-write_slot.ensures.ready told limit found new side whole.next slot first.keeps
    (all_stand limit found new (map block_piece c.args.blocks.now) (g.D.Disk.content c.args.disk.now) (g.D.Disk.content c.write_extents.new.disk) (g.D.Disk.image c.args.disk.now)
    (g.met.D.Disk.gives_image c.args.disk.now) (c.write_extents.ensures.told mid) keeps whole c.in_ok-write_extents.ensures.content)
