use Rattle.store_opening.proofs.Made.{blank_written}
use Rattle.store_opening.proofs.opening.prepare.Goals as goal

pub returns-clause-blank : goal.returns-clause-blank
returns-clause-blank g c = λ empty.
    blank_written c.header_bytes.result (g.D.Disk.content c.args.disk.now) (g.D.Disk.content c.write_at.new.self) (g.D.Disk.content c.sync.new.self) c.header_bytes.ensures.size
    c.header_bytes.ensures.magic c.header_bytes.ensures.closed c.in_ok-write_at.ensures.content c.in_ok-sync.ensures.content empty
