use Rattle.store_commands.proofs.Ending.{ready}
use Rattle.store_commands.proofs.written.written.Goals as goal

pub committed-requires : goal.committed-requires
committed-requires g c =
    ready c.args.mapping.now c.args.index.now c.seal.new.self c.args.store.now c.in_ok-seal.ensures.sealed c.seal.ensures.fits c.requires.sources c.requires.known c.requires.read
