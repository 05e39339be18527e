use Rattle.engine.specs.Parts.{answered_of}
use Rattle.engine.proofs.Leaving.{leaves_sealed}
use Rattle.engine.proofs.Committing.{trim_ends, trim_stays}
use Rattle.engine.proofs.storing.trim.Goals as goal

pub returns-clause-answers : goal.returns-clause-answers
returns-clause-answers g c = λ limits state limit f kept.
    trim_ends limits c.args.mapping.now c.args.index.now c.trim-done.new.index state c.args.store.now c.trim-done.new.store c.trim-done.result c.report.result c.report.new.out.bytes _ _ _ _ _ _ _ _ _ f kept c.trim-done.ensures.next c.trim-done.ensures.limit
    c.trim-done.ensures.ended c.report.ensures.reported (c.trim-done.ensures.fault, c.trim-done.ensures.no_fault) c.trim-done.ensures.stores

pub returns-clause-leaves : goal.returns-clause-leaves
returns-clause-leaves g c =
    leaves_sealed (answered_of c.report.result) c.args.mapping.now c.args.index.now c.trim-done.new.index c.requires.index c.trim-done.ensures.fits c.trim-done.ensures.next c.trim-done.ensures.objects
    (trim_stays c.trim-done.result c.args.index.now c.trim-done.new.index c.args.store.now c.trim-done.new.store c.trim-done.ensures.ended)
