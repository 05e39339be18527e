use Rattle.segment_merge.proofs.Kept.{all_roots}
use Rattle.segment_merge.proofs.Merging.{Laws, blocks, blocks_given, by_key, it, roots_are}
use Rattle.segment_merge.proofs.law.merged_segments_are_live_blocks.Goals as goal

pub returns-clause-blocks : goal.returns-clause-blocks
returns-clause-blocks c =
    let laws : Laws = record {
      flats = c.fitting_segments_are_blocks.ensures.flats;
      fits = c.fitting_segments_are_blocks.ensures.roots;
      roots = c.fitting_segments_are_blocks.ensures.same;
      scopes = c.blocks_carry_what_documents_carry.ensures.scopes;
      terms = c.blocks_carry_what_documents_carry.ensures.terms;
      numbers = c.blocks_carry_what_documents_carry.ensures.numbers;
      keywords = c.blocks_carry_what_documents_carry.ensures.keywords;
      texts = c.blocks_carry_what_documents_carry.ensures.texts;
    } in
    let entries = c.args.entries.now in
    let columns = c.args.segment.now in
    let known = c.entries_are_known.ensures in
    λ m mergeable merged.
    c.made_segments_are_blocks.ensures.blocks m (blocks laws m entries known mergeable) (blocks_given laws m entries known mergeable)
    (c.columns_by_key_are_made.ensures (it laws m entries known mergeable) columns (by_key laws m entries known mergeable columns merged))
    (roots_are laws m entries known mergeable columns merged)

pub returns-clause-fits : goal.returns-clause-fits
returns-clause-fits c =
    let laws : Laws = record {
      flats = c.fitting_segments_are_blocks.ensures.flats;
      fits = c.fitting_segments_are_blocks.ensures.roots;
      roots = c.fitting_segments_are_blocks.ensures.same;
      scopes = c.blocks_carry_what_documents_carry.ensures.scopes;
      terms = c.blocks_carry_what_documents_carry.ensures.terms;
      numbers = c.blocks_carry_what_documents_carry.ensures.numbers;
      keywords = c.blocks_carry_what_documents_carry.ensures.keywords;
      texts = c.blocks_carry_what_documents_carry.ensures.texts;
    } in
    let entries = c.args.entries.now in
    let columns = c.args.segment.now in
    let known = c.entries_are_known.ensures in
    λ m other mergeable merged fits.
    c.made_segments_are_blocks.ensures.fits m (blocks laws m entries known mergeable) (blocks_given laws m entries known mergeable)
    (c.columns_by_key_are_made.ensures (it laws m entries known mergeable) columns (by_key laws m entries known mergeable columns merged))
    (roots_are laws m entries known mergeable columns merged) other (all_roots entries (λ k d h. (known k d h).agree) laws.flats laws.fits other fits)
