use Rattle.std.proofs.Common.{◌≡◌, List}
use Rattle.store_opening.proofs.Shows.{opens_blank, opens_commit, opens_empty, shown_blank, shown_commit, shown_empty}
use Rattle.store_opening.proofs.opening.open_store.Goals as goal

pub returns-in_err-prepare-in-Empty-clause-looked : goal.returns-in_err-prepare-in-Empty-clause-looked
returns-in_err-prepare-in-Empty-clause-looked g c = λ file known some.
    absurd (some (shown_empty c.args.limit file c.in_ok-read_store.field-0 c.in-Empty.is (c.in_ok-read_store.ensures.shows file known)))

pub returns-in_ok-prepare-in-Empty-clause-looked : goal.returns-in_ok-prepare-in-Empty-clause-looked
returns-in_ok-prepare-in-Empty-clause-looked g c = λ file known some.
    absurd (some (shown_empty c.args.limit file c.in_ok-read_store.field-0 c.in-Empty.is (c.in_ok-read_store.ensures.shows file known)))

pub returns-in_ok-prepare-in-Empty-clause-opens : goal.returns-in_ok-prepare-in-Empty-clause-opens
returns-in_ok-prepare-in-Empty-clause-opens g c = λ file known.
    opens_empty c.args.limit file c.without_commit.result (g.D.Disk.content c.args.disk.now) (g.D.Disk.content c.read_store.new.disk) (g.D.Disk.content c.prepare.new.disk)
    (g.D.Disk.image c.args.disk.now) (g.D.Disk.image c.prepare.new.disk) c.requires known c.in_ok-read_store.ensures.content
    (shown_empty c.args.limit file c.in_ok-read_store.field-0 c.in-Empty.is (c.in_ok-read_store.ensures.shows file known)) c.in_ok-prepare-in-Empty.ensures.blank
    c.an_opened_store_keeps_its_commit.ensures c.in_ok-prepare-in-Empty.ensures.only c.without_commit.ensures.opened

pub returns-in-Blank-clause-opens : goal.returns-in-Blank-clause-opens
returns-in-Blank-clause-opens g c = λ file known.
    opens_blank c.args.limit file c.without_commit-in-Blank.result (g.D.Disk.content c.args.disk.now) (g.D.Disk.content c.read_store.new.disk) (g.D.Disk.image c.args.disk.now)
    (g.D.Disk.image c.read_store.new.disk) c.requires known c.in_ok-read_store.ensures.content c.read_store.ensures.looked.images
    (shown_blank c.args.limit file c.in_ok-read_store.field-0 c.in-Blank.is (c.in_ok-read_store.ensures.shows file known))
    c.an_opened_store_keeps_its_commit-in-Blank.ensures c.without_commit-in-Blank.ensures.opened

pub returns-in_ok-with_commit-in-Commit-clause-opens : goal.returns-in_ok-with_commit-in-Commit-clause-opens
returns-in_ok-with_commit-in-Commit-clause-opens g c = λ file known.
    let shows = shown_commit c.args.limit file c.in_ok-read_store.field-0 c.in-Commit.found c.in-Commit.is (c.in_ok-read_store.ensures.shows file known) in
    opens_commit c.args.limit file c.in-Commit.found c.in_ok-with_commit-in-Commit.field-0 (g.D.Disk.content c.args.disk.now) (g.D.Disk.content c.read_store.new.disk)
    (g.D.Disk.image c.args.disk.now) (g.D.Disk.image c.read_store.new.disk) c.requires known c.in_ok-read_store.ensures.content c.read_store.ensures.looked.images shows
    c.an_opened_store_keeps_its_commit-in-Commit.ensures (c.in_ok-with_commit-in-Commit.ensures.opened file shows)
