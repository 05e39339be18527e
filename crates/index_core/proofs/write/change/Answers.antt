use Rattle.std.proofs.Common.{◌≡◌, List, [], sym, ap, subst, ◌∙◌, OnOk}
use Rattle.std.specs.List.{find}
use Rattle.flattener.specs.Block.{BlockState}
use Rattle.layout.specs.Layout.{Layout, killed, with_new}
use Rattle.index_core.specs.Found.{layout_of, live_blocks}
use Rattle.index_core.specs.Kept.{has_block_id}
use Rattle.index_core.specs.Write.{id_of, new_of}
use Rattle.index_core.specs.declared.op.WriteOp.{WriteOp}
use Rattle.index_core.proofs.Keeping.{none_live}
use Rattle.index_core.proofs.Laying.{none_killed, nothing_new}
use Rattle.index_core.proofs.write.change.Goals as goal

pub returns-in-Put-clause-layout : goal.returns-in-Put-clause-layout
returns-in-Put-clause-layout c =
    let old = c.args.blocks.now in
    let none = none_live (find (has_block_id (id_of c.args.op)) (live_blocks old.entries old.buffer)) (c.requires.old.live ∙ c.in-None.is) in
    let kept = none_killed old (id_of c.args.op) none in
    subst (λ (l : Layout BlockState). OnOk c.put_new.result (layout_of c.put_new.new.blocks ≡ with_new (new_of c.args.op) l)) (sym kept)
    (subst (λ (op : WriteOp). OnOk c.put_new.result (layout_of c.put_new.new.blocks ≡ with_new (new_of op) (layout_of old))) (sym c.in-Put.is) c.put_new.ensures.layout)

pub returns-clause-layout : goal.returns-clause-layout
returns-clause-layout c =
    let old = c.args.blocks.now in
    let none = none_live (find (has_block_id (id_of c.args.op)) (live_blocks old.entries old.buffer)) (c.requires.old.live ∙ c.in-None-old.is) in
    let kept = none_killed old (id_of c.args.op) none in
    nothing_new (layout_of old) ∙ ap (with_new []) (sym kept) ∙ ap (λ (bs : List BlockState). with_new bs (killed (has_block_id (id_of c.args.op)) (layout_of old))) (sym (ap new_of c.in-Take.is))
