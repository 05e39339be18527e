use Rattle.std.proofs.lemmas.List.Elements.{All-from_recursion}
use Rattle.store_commands.specs.Ready.{HasItems}
use Rattle.store_commands.proofs.Sealed.{committable, have_items}
use Rattle.store_commands.proofs.ready.view_is_committable.Goals as goal

pub returns-clause-committable : goal.returns-clause-committable
returns-clause-committable c =
    committable c.fitting_segments_are_blocks.ensures.same c.args.mapping.now c.args.index.now c.args.store.now c.next-next.ensures.kept (c.view.ensures.fits c.args.mapping.now c.requires.fits) c.requires

pub returns-clause-items : goal.returns-clause-items
returns-clause-items c =
    All-from_recursion HasItems c.args.index.now.entries
    (have_items c.fitting_segments_are_blocks.ensures.same c.args.mapping.now c.args.index.now.entries (c.view.ensures.fits c.args.mapping.now c.requires.fits))
