use Rattle.std.proofs.Common.{refl}
use Rattle.tree_json.specs.View.{view}
use Rattle.flattener.proofs.Wholes.{block_fits, block_made, tree_short}
use Rattle.flattener.proofs.flatten.block.Goals as goal

pub returns-clause-block : goal.returns-clause-block
returns-clause-block c =
    block_made c.args.mapping.now c.args.id.now c.args.number (view c.args.source.now) c.args.generation _ _
    c.in_ok-documents.ensures.documents c.in_ok-root.ensures.root

pub returns-clause-fits : goal.returns-clause-fits
returns-clause-fits c = λ small. block_fits c.args.mapping.now c.args.id.now c.args.number (view c.args.source.now) c.args.generation _
    (tree_short _ _ c.requires (c.in_ok-text.ensures.short refl)) c.in_ok-faultless.ensures.ok (c.in_ok-documents.ensures.few refl) small
    (block_made c.args.mapping.now c.args.id.now c.args.number (view c.args.source.now) c.args.generation _ _
    c.in_ok-documents.ensures.documents c.in_ok-root.ensures.root)
