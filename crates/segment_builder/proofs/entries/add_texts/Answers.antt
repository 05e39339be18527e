use Rattle.std.proofs.lemmas.List.{at_drop_all, at_drop_more}
use Rattle.segment_builder.specs.Members.{text_member}
use Rattle.segment_builder.specs.Parts.{fields_with}
use Rattle.segment_builder.proofs.Added.{added_all, added_on}
use Rattle.segment_builder.proofs.entries.add_texts.Goals as goal

pub fields-preserved : goal.fields-preserved
fields-preserved c = (
  added_on text_member _ _ _ _ _ _ _ _ (at_drop_more (λ fields. fields_with c.args.doc fields) c.args.fields.now c.fields.field-index _ c.fields-test.true)
      c.in_ok-put.ensures.gather c.fields.invariant.0,
  c.in_ok-put.ensures.ordered,
)

pub returns-clause-added : goal.returns-clause-added
returns-clause-added c = added_all text_member _ _ _ _ (at_drop_all (λ fields. fields_with c.args.doc fields) c.args.fields.now c.fields.field-index c.fields-test.false) c.fields.invariant.0
