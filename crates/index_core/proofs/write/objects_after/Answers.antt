use Rattle.std.proofs.Common.{◌≡◌, ◌++◌, ◌∷◌, List, [], filter, ap, append-nil, arith}
use Rattle.std.proofs.lemmas.List.{length-map}
use Rattle.flattener.specs.Block.{BlockState}
use Rattle.flattener.specs.Seen.{block_seen, document_seen}
use Rattle.layout.specs.Layout.{staying}
use Rattle.segment_builder.specs.Blocks.{objects_of}
use Rattle.index_core.specs.Found.{live_blocks}
use Rattle.index_core.specs.Kept.{has_block_id}
use Rattle.index_core.specs.Write.{id_of, new_of}
use Rattle.index_core.proofs.Changing.{objects_put}
use Rattle.index_core.proofs.write.objects_after.Goals as goal

pub returns-in-Put : goal.returns-in-Put
returns-in-Put c =
    let live = live_blocks c.args.blocks.now.entries c.args.blocks.now.buffer in
    let id = id_of c.args.op.now in
    let new : new_of c.args.op.now ≡ block_seen c.in-Put.block ∷ [] = ap new_of c.in-Put.is in
    let all = ap (λ (bs : List BlockState). objects_of (filter (staying (has_block_id id)) live ++ bs)) new in
    let docs = c.in-Put.block.documents in
    omega (arith, c.objects_without-staying.ensures.staying id c.requires.old, all, objects_put id (block_seen c.in-Put.block) live, c.len.ensures, length-map docs.items document_seen, docs.ok.0)

pub returns-in-Take : goal.returns-in-Take
returns-in-Take c =
    let live = live_blocks c.args.blocks.now.entries c.args.blocks.now.buffer in
    let id = id_of c.args.op.now in
    let new : new_of c.args.op.now ≡ [] = ap new_of c.in-Take.is in
    let all = ap (λ (bs : List BlockState). objects_of (filter (staying (has_block_id id)) live ++ bs)) new in
    omega (arith, c.objects_without-staying.ensures.staying id c.requires.old, all, ap objects_of (append-nil (filter (staying (has_block_id id)) live)))
