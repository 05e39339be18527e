use Rattle.commit_images.specs.Going.{some_image, cut_follows, step_preserved, step_still, step_on}
use Rattle.commit_images.proofs.steps.cut_behind.Goals as goal

pub returns-in_err-cut-clause-step : goal.returns-in_err-cut-clause-step
returns-in_err-cut-clause-step g c = λ told limit active behind end keeps.
    let follows = cut_follows (g.S.Saying.IsGood limit) active c.args.len (g.D.Disk.image c.args.disk.now) (g.D.Disk.image c.cut.new.self) keeps behind end c.cut.ensures.images in
    let first = step_preserved (g.S.Saying.IsGood limit) active (g.D.Disk.image c.args.disk.now) (g.D.Disk.image c.cut.new.self) (g.D.Disk.image c.cut.new.self) keeps follows follows
    (some_image (g.D.Disk.content c.cut.new.self) (g.D.Disk.image c.cut.new.self) (g.met.D.Disk.gives_image c.cut.new.self) told)
    c.cut.ensures.time in
    first

pub returns-in_err-sync-clause-step : goal.returns-in_err-sync-clause-step
returns-in_err-sync-clause-step g c = λ told limit active behind end keeps.
    let follows = cut_follows (g.S.Saying.IsGood limit) active c.args.len (g.D.Disk.image c.args.disk.now) (g.D.Disk.image c.cut.new.self) keeps behind end c.cut.ensures.images in
    let first = step_preserved (g.S.Saying.IsGood limit) active (g.D.Disk.image c.args.disk.now) (g.D.Disk.image c.cut.new.self) (g.D.Disk.image c.cut.new.self) keeps follows follows
    (some_image (g.D.Disk.content c.cut.new.self) (g.D.Disk.image c.cut.new.self) (g.met.D.Disk.gives_image c.cut.new.self) (c.sync.ensures.told told))
    c.cut.ensures.time in
    step_on first
    (step_still (g.S.Saying.IsGood limit) active (g.D.Disk.image c.cut.new.self) (g.D.Disk.image c.sync.new.self) first.keeps c.sync.ensures.images
    (some_image (g.D.Disk.content c.sync.new.self) (g.D.Disk.image c.sync.new.self) (g.met.D.Disk.gives_image c.sync.new.self) told) c.sync.ensures.time)
    (λ image it. it) (λ image it. it)

pub returns-clause-step : goal.returns-clause-step
returns-clause-step g c = λ told limit active behind end keeps.
    let follows = cut_follows (g.S.Saying.IsGood limit) active c.args.len (g.D.Disk.image c.args.disk.now) (g.D.Disk.image c.cut.new.self) keeps behind end c.cut.ensures.images in
    let first = step_preserved (g.S.Saying.IsGood limit) active (g.D.Disk.image c.args.disk.now) (g.D.Disk.image c.cut.new.self) (g.D.Disk.image c.cut.new.self) keeps follows follows
    (some_image (g.D.Disk.content c.cut.new.self) (g.D.Disk.image c.cut.new.self) (g.met.D.Disk.gives_image c.cut.new.self) (c.sync.ensures.told told))
    c.cut.ensures.time in
    step_on first
    (step_still (g.S.Saying.IsGood limit) active (g.D.Disk.image c.cut.new.self) (g.D.Disk.image c.sync.new.self) first.keeps c.sync.ensures.images
    (some_image (g.D.Disk.content c.sync.new.self) (g.D.Disk.image c.sync.new.self) (g.met.D.Disk.gives_image c.sync.new.self) told) c.sync.ensures.time)
    (λ image it. it) (λ image it. it)
