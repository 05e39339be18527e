use Rattle.std.proofs.Common.{◌<◌, length, map, sym, subst, arith, Option, MatchOption}
use Rattle.std.proofs.lemmas.List.{get_or-map, length-map}
use Rattle.flattener.specs.declared.document.Block.{Block}
use Rattle.flattener.specs.Seen.{block_seen}
use Rattle.segment.specs.Flat.{FlatRoot, flat_root}
use Rattle.stored_sources.specs.Roots.{no_root, root_of}
use Rattle.store_check.specs.Made.{IsBlockOf, IsOfNoTree}
use Rattle.store_check.proofs.Counts.{one_more}
use Rattle.store_check.proofs.Rows.{none_made}
use Rattle.store_check.proofs.anew.blocks_of_sources.Goals as goal

pub returns-in_default : goal.returns-in_default
returns-in_default g c =
    let root : FlatRoot = flat_root (root_of c.args.sources.now c.roots.root) in
    let h : c.roots.root < length c.args.sources.now = omega (arith, c.roots-test.true, c.count-root-end.ensures) in
    none_made c.args.mapping.now (map flat_root c.args.sources.now) c.roots.root root
    (omega (arith, h, length-map c.args.sources.now flat_root))
    (sym (get_or-map flat_root c.args.sources.now c.roots.root no_root root h))
    (subst (λ (found : Option Block). MatchOption found (IsOfNoTree c.args.mapping.now root) (λ block. IsBlockOf c.args.mapping.now root (block_seen block)))
    c.in_default.is c.in_ok-block.ensures)

pub roots-preserved : goal.roots-preserved
roots-preserved g c =
    let root : FlatRoot = flat_root (root_of c.args.sources.now c.roots.root) in
    one_more c.args.mapping.now c.args.sources.now c.roots.blocks.items c.push.new.self.items c.in-Some.block c.roots.root
    (omega (arith, c.roots-test.true, c.count-root-end.ensures))
    c.roots.invariant
    (subst (λ (found : Option Block). MatchOption found (IsOfNoTree c.args.mapping.now root) (λ block. IsBlockOf c.args.mapping.now root (block_seen block)))
    c.in-Some.is c.in_ok-block.ensures)
    c.in_ok-push.ensures.items
