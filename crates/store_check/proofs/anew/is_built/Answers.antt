use Rattle.std.proofs.Common.{map, arith}
use Rattle.std.proofs.lemmas.List.{length-map}
use Rattle.flattener.specs.Seen.{block_seen}
use Rattle.segment.specs.Flat.{roots_of}
use Rattle.store_check.proofs.Compared.{of_built}
use Rattle.store_check.proofs.Rows.{are_made, as_many, made_fit, some_roots}
use Rattle.store_check.proofs.anew.is_built.Goals as goal

pub built-requires-clause-fit : goal.built-requires-clause-fit
built-requires-clause-fit c =
    let roots = roots_of c.args.segment.now in
    let blocks = map block_seen c.args.blocks.now in
    made_fit c.args.mapping.now roots blocks (are_made c.args.mapping.now roots blocks c.requires.blocks)

pub built-requires-clause-some : goal.built-requires-clause-some
built-requires-clause-some c =
    let roots = roots_of c.args.segment.now in
    let blocks = map block_seen c.args.blocks.now in
    omega (
      arith,
      as_many c.args.mapping.now roots blocks c.requires.blocks,
      length-map c.args.blocks.now block_seen,
      some_roots c.args.mapping.now c.args.segment.now c.requires.fits
          (omega (arith, c.docs-documents.ensures.flats, c.docs-documents.ensures.documents, c.docs-documents.ensures.agree.parts.head.some_documents)),
    )

pub returns : goal.returns
returns c =
    let m = c.args.mapping.now in
    let roots = roots_of c.args.segment.now in
    let blocks = map block_seen c.args.blocks.now in
    of_built c.words_are_of_one_set.ensures m c.args.segment.now c.in_ok-made.made roots blocks c.bytes.result.now c.bytes-2.result.now c.are_same.result
    c.blocks_are_whole.ensures.roots
    (are_made m roots blocks c.requires.blocks)
    c.in_ok-made.ensures.blocks
    (c.segments_are_known_by_their_blocks.ensures m c.requires.fits c.in_ok-made.ensures.fits)
    c.bytes.ensures
    c.bytes-2.ensures
    c.are_same.ensures
