use Rattle.std.proofs.Common.{arith}
use Rattle.segment_merge.proofs.FewTerms.{few_terms}
use Rattle.segment_merge.proofs.Merging.{Laws, blocks, blocks_given, by_key, it, roots_are}
use Rattle.segment_merge.proofs.law.merged_columns_agree.Goals as goal

pub returns : goal.returns
returns c =
    let laws : Laws = record {
      flats = c.fitting_segments_are_blocks.ensures.flats;
      fits = c.fitting_segments_are_blocks.ensures.roots;
      roots = c.fitting_segments_are_blocks.ensures.same;
      scopes = c.blocks_carry_what_documents_carry.ensures.scopes;
      terms = c.blocks_carry_what_documents_carry.ensures.terms;
      numbers = c.blocks_carry_what_documents_carry.ensures.numbers;
      keywords = c.blocks_carry_what_documents_carry.ensures.keywords;
      texts = c.blocks_carry_what_documents_carry.ensures.texts;
    } in
    let entries = c.args.entries.now in
    let known = c.entries_are_known.ensures in
    λ m columns mergeable merged few.
    c.made_columns_agree.ensures m (blocks laws m entries known mergeable) columns (blocks_given laws m entries known mergeable)
    (c.columns_by_key_are_made.ensures (it laws m entries known mergeable) columns (by_key laws m entries known mergeable columns merged))
    (roots_are laws m entries known mergeable columns merged) (omega (arith, few_terms columns, few))
