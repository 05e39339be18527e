use Rattle.std.proofs.Common.{◌≡◌, ◌+◌, ◌++◌, drop, length, map, refl, sym, ap, subst, ◌∙◌, arith, length-append}
use Rattle.std.proofs.lemmas.List.{at_drop_all, at_drop_more, length-map}
use Rattle.flattener.specs.Seen.{block_seen, document_seen}
use Rattle.segment.specs.Flat.{FlatDocument}
use Rattle.segment_builder.specs.Entries.{flats_in, no_entries, with_blocks, with_documents}
use Rattle.segment_builder.specs.Lists.{AreLists}
use Rattle.segment_builder.specs.Members.{keyword_member, number_member, text_member, word_member}
use Rattle.segment_builder.proofs.Added.{gathered_none}
use Rattle.segment_builder.proofs.entries.lists_of.Goals as goal

pub each-init : goal.each-init
each-init c = (
  (
    no_entries,
    record {
      scopes = c.in_ok-with_capacity.ensures.items;
      numbers = gathered_none number_member c.new.result.items c.new.ensures.items;
      keywords = gathered_none keyword_member c.new-2.result.items c.new-2.ensures.items;
      words = gathered_none word_member c.new-3.result.items c.new-3.ensures.items;
      texts = gathered_none text_member c.new-4.result.items c.new-4.ensures.items;
    },
    refl,
  ),
  omega (arith, ap length c.in_ok-with_capacity.ensures.items),
)

pub add_documents-requires-clause-few : goal.add_documents-requires-clause-few
add_documents-requires-clause-few c =
    let at = c.each.block-index in
    let item = c.block-item.result in
    let rest = flats_in (map block_seen (drop (at + 1) c.args.blocks.now)) in
    let left : flats_in (map block_seen (drop at c.args.blocks.now)) ≡ map document_seen item.documents.items ++ rest =
    at_drop_more (λ blocks. flats_in (map block_seen blocks)) c.args.blocks.now at item c.each-test.true ∙ ap (λ block. map document_seen block.documents.items ++ rest) (sym c.block-item.is) in
    omega (
      arith,
      c.requires,
      c.each.invariant.1,
      ap length left,
      length-append (map document_seen item.documents.items) rest,
      length-map {B = FlatDocument} item.documents.items document_seen,
      ap length c.as_slice.ensures.value,
    )

pub add_documents-requires-clause-lists : goal.add_documents-requires-clause-lists
add_documents-requires-clause-lists c = (c.each.invariant.0.0, c.each.invariant.0.1)

pub each-preserved : goal.each-preserved
each-preserved c =
    let at = c.each.block-index in
    let item = c.block-item.result in
    let own = c.each.invariant.0 in
    let rest = flats_in (map block_seen (drop (at + 1) c.args.blocks.now)) in
    let left : flats_in (map block_seen (drop at c.args.blocks.now)) ≡ map document_seen item.documents.items ++ rest =
    at_drop_more (λ blocks. flats_in (map block_seen blocks)) c.args.blocks.now at item c.each-test.true ∙ ap (λ block. map document_seen block.documents.items ++ rest) (sym c.block-item.is) in (
      (
        with_documents own.0 (map document_seen item.documents.items),
        rw c.as_slice.ensures.value at (c.in_ok-add_documents.ensures.lists own.0 own.1),
        sym
            (at_drop_more (λ blocks. with_blocks own.0 (map block_seen blocks)) c.args.blocks.now at item c.each-test.true
            ∙ ap (λ block. with_blocks (with_documents own.0 (map document_seen block.documents.items)) (map block_seen (drop (at + 1) c.args.blocks.now))) (sym c.block-item.is))
            ∙ own.2,
      ),
      omega (
        arith,
        c.in_ok-add_documents.ensures.longer,
        c.each.invariant.1,
        ap length left,
        length-append (map document_seen item.documents.items) rest,
        length-map {B = FlatDocument} item.documents.items document_seen,
        ap length c.as_slice.ensures.value,
      ),
    )

pub returns : goal.returns
returns c =
    let own = c.each.invariant.0 in
    subst (λ e. AreLists e c.each.lists) (sym (at_drop_all (λ blocks. with_blocks own.0 (map block_seen blocks)) c.args.blocks.now c.each.block-index c.each-test.false) ∙ own.2) own.1
