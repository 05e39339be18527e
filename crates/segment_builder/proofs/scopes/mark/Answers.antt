use Rattle.std.proofs.Common.{length, get_or, refl, arith}
use Rattle.segment_builder.proofs.Scoped.{all_marked, set_long, sets_more}
use Rattle.segment_builder.proofs.scopes.mark.Goals as goal

pub set-requires : goal.set-requires
set-requires c =
    set_long c.args.scopes.now c.docs.doc (length c.args.sets.now.items) (get_or c.args.scopes.now c.docs.doc 0) c.docs.sets.items c.index_mut-set.result.now c.index_mut-set.result.now c.docs-test.true
    (c.requires.within c.docs.doc 0 c.docs-test.true) c.docs.invariant c.index_mut-set.ensures.value

pub docs-preserved : goal.docs-preserved
docs-preserved c =
    sets_more c.args.scopes.now c.docs.doc (length c.args.sets.now.items) (get_or c.args.scopes.now c.docs.doc 0) c.docs.sets.items _ c.index_mut-set.result.now c.set.new.self c.index_mut-set.result.now c.docs-test.true
    refl (c.requires.within c.docs.doc 0 c.docs-test.true) c.docs.invariant c.index_mut-set.ensures.value c.set.ensures refl

pub returns : goal.returns
returns c = all_marked c.args.scopes.now c.docs.doc (length c.args.sets.now.items) c.docs.sets.items (omega (arith, c.docs-test.false)) c.docs.invariant
