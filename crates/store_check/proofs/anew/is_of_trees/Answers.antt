use Rattle.std.proofs.Common.{List, Option, Vec, Global, MatchOption, map, subst}
use Rattle.flattener.specs.declared.document.Block.{Block}
use Rattle.flattener.specs.Seen.{block_seen}
use Rattle.segment.specs.Flat.{flat_root, roots_of}
use Rattle.stored_sources.specs.declared.root.Root.{Root}
use Rattle.store_check.specs.Made.{AreBlocksOf, AreOfNoTrees}
use Rattle.store_check.proofs.Compared.{not_of}
use Rattle.store_check.proofs.anew.is_of_trees.Goals as goal

pub returns-in_default : goal.returns-in_default
returns-in_default c =
    let m = c.args.mapping.now in
    let roots : List Root = c.sources.result in
    not_of m c.args.segment.now (roots_of c.args.segment.now) c.blocks_are_whole.ensures.roots
    (subst (λ (it : List Root). AreOfNoTrees m (map flat_root it)) c.sources.ensures.roots
    (subst
    (λ (found : Option (Vec Block Global)). MatchOption found (AreOfNoTrees m (map flat_root roots)) (λ blocks. AreBlocksOf m (map flat_root roots) (map block_seen blocks.items)))
    c.in_default.is c.in_ok-blocks.ensures))
