use Rattle.std.proofs.Common.{arith}
use Rattle.leaf_search.proofs.Named.{gains_none, gains_more, gains_all}
use Rattle.leaf_search.proofs.ids.mark_roots.Goals as goal

pub roots-init : goal.roots-init
roots-init c = gains_none c.args.segment.now.scopes c.args.set.now

pub root_doc-requires : goal.root_doc-requires
root_doc-requires c = c.requires.roots c.roots.root-index 0 c.roots-test.true

pub roots-preserved : goal.roots-preserved
roots-preserved c =
    gains_more c.args.segment.now.scopes c.args.roots.now c.roots.root-index c.root_doc.result c.args.set.now c.roots.set c.set.new.self c.roots.invariant c.roots-test.true c.root_doc.ensures.document
    (omega (arith, c.root_doc.ensures.within, c.requires.long, c.roots.invariant.long)) c.set.ensures

pub returns : goal.returns
returns c = gains_all c.args.segment.now.scopes c.args.roots.now c.roots.root-index c.args.set.now c.roots.set c.roots-test.false c.roots.invariant
