use Rattle.engine.specs.Parts.{answered_of}
use Rattle.engine.proofs.Leaving.{leaves_same, leaves_sealed}
use Rattle.engine.proofs.Committing.{Laws, compact_ends, compact_stays}
use Rattle.engine.proofs.storing.compact.Goals as goal

pub returns-clause-answers : goal.returns-clause-answers
returns-clause-answers g c = λ limits state limit f kept.
    let laws : Laws = record {
      sizes = c.commits_are_those_of_the_machine.ensures.sizes;
      room = c.commits_are_those_of_the_machine.ensures.room;
      kept = c.commits_are_those_of_the_machine.ensures.kept;
      still = c.commits_are_those_of_the_machine.ensures.still;
      content = c.commits_hold_the_trees.ensures.content;
    } in
    compact_ends laws c.args.most limits c.args.mapping.now c.args.index.now c.compact-done.new.index state c.args.store.now c.compact-done.new.store c.compact-done.result c.report.result c.report.new.out.bytes _ _ _ _ _ _ _ _ _ limit f kept c.compact-done.ensures.next
    c.compact-done.ensures.fits (c.view-fits.ensures.fits c.args.mapping.now c.compact-done.ensures.fits) c.generation-generation.ensures.mapping c.compact-done.ensures.limit c.compact-done.ensures.ended c.report.ensures.reported
    (c.compact-done.ensures.fault, c.compact-done.ensures.no_fault) c.compact-done.ensures.stores c.compact-done.ensures.holds

pub returns-clause-leaves : goal.returns-clause-leaves
returns-clause-leaves g c =
    leaves_sealed (answered_of c.report.result) c.args.mapping.now c.args.index.now c.compact-done.new.index c.requires.index c.compact-done.ensures.fits c.compact-done.ensures.next c.compact-done.ensures.objects
    (compact_stays c.args.mapping.now c.args.most c.compact-done.result c.args.index.now c.compact-done.new.index c.args.store.now c.compact-done.new.store c.compact-done.ensures.ended)

pub returns-in_err-make_room-clause-leaves : goal.returns-in_err-make_room-clause-leaves
returns-in_err-make_room-clause-leaves g c = leaves_same _ c.args.mapping.now c.args.index.now c.requires.index
