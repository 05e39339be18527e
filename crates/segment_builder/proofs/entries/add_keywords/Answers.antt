use Rattle.std.proofs.Common.{map, refl, ◌∙◌}
use Rattle.std.proofs.lemmas.List.{at_drop_all, at_drop_more}
use Rattle.flattener.specs.Seen.{keyword_seen}
use Rattle.segment_builder.specs.Members.{keyword_member}
use Rattle.segment_builder.specs.Parts.{tagged}
use Rattle.segment_builder.proofs.Added.{added_all, added_on}
use Rattle.segment_builder.proofs.entries.add_keywords.Goals as goal

pub fields-preserved : goal.fields-preserved
fields-preserved c = (
  added_on keyword_member _ _ _ _ _ _ _ _ (at_drop_more (λ fields. tagged c.args.doc (map keyword_seen fields)) c.args.fields.now c.fields.field-index c.field-item.result c.fields-test.true ∙ rw (← c.field-item.is) refl)
      c.in_ok-put.ensures.gather c.fields.invariant.0,
  c.in_ok-put.ensures.ordered,
)

pub returns-clause-added : goal.returns-clause-added
returns-clause-added c = added_all keyword_member _ _ _ _ (at_drop_all (λ fields. tagged c.args.doc (map keyword_seen fields)) c.args.fields.now c.fields.field-index c.fields-test.false) c.fields.invariant.0
