use Rattle.std.proofs.Common.{map, refl, ◌∙◌}
use Rattle.std.proofs.lemmas.List.{at_drop_all, at_drop_more}
use Rattle.flattener.specs.Seen.{word_seen}
use Rattle.segment_builder.specs.Members.{by_field, word_member}
use Rattle.segment_builder.specs.Parts.{tagged}
use Rattle.segment_builder.proofs.Added.{added_all, added_on}
use Rattle.segment_builder.proofs.entries.add_words.Goals as goal

pub words-preserved : goal.words-preserved
words-preserved c = (
  added_on word_member _ _ _ _ _ _ _ _ (at_drop_more (λ words. by_field (tagged c.args.doc (map word_seen words))) c.args.words.now c.words.word-index c.word-item.result c.words-test.true ∙ rw (← c.word-item.is) refl)
      c.in_ok-put.ensures.gather c.words.invariant.0,
  c.in_ok-put.ensures.ordered,
)

pub returns-clause-added : goal.returns-clause-added
returns-clause-added c = added_all word_member _ _ _ _ (at_drop_all (λ words. by_field (tagged c.args.doc (map word_seen words))) c.args.words.now c.words.word-index c.words-test.false) c.words.invariant.0
