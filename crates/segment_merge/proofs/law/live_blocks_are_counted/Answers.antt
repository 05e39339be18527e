use Rattle.segment_merge.proofs.LiveDocuments.{all_blocks, all_objects}
use Rattle.segment_merge.proofs.Merging.{Laws, whole_entries}
use Rattle.segment_merge.proofs.law.live_blocks_are_counted.Goals as goal

pub returns-clause-objects : goal.returns-clause-objects
returns-clause-objects c =
    let laws : Laws = record {
      flats = c.fitting_segments_are_blocks.ensures.flats;
      fits = c.fitting_segments_are_blocks.ensures.roots;
      roots = c.fitting_segments_are_blocks.ensures.same;
      scopes = c.blocks_carry_what_documents_carry.ensures.scopes;
      terms = c.blocks_carry_what_documents_carry.ensures.terms;
      numbers = c.blocks_carry_what_documents_carry.ensures.numbers;
      keywords = c.blocks_carry_what_documents_carry.ensures.keywords;
      texts = c.blocks_carry_what_documents_carry.ensures.texts;
    } in
    λ m fit. all_objects c.args.entries.now (whole_entries laws m c.args.entries.now c.entries_are_known.ensures fit)

pub returns-clause-blocks : goal.returns-clause-blocks
returns-clause-blocks c =
    let laws : Laws = record {
      flats = c.fitting_segments_are_blocks.ensures.flats;
      fits = c.fitting_segments_are_blocks.ensures.roots;
      roots = c.fitting_segments_are_blocks.ensures.same;
      scopes = c.blocks_carry_what_documents_carry.ensures.scopes;
      terms = c.blocks_carry_what_documents_carry.ensures.terms;
      numbers = c.blocks_carry_what_documents_carry.ensures.numbers;
      keywords = c.blocks_carry_what_documents_carry.ensures.keywords;
      texts = c.blocks_carry_what_documents_carry.ensures.texts;
    } in
    λ m fit. all_blocks c.args.entries.now (whole_entries laws m c.args.entries.now c.entries_are_known.ensures fit)
