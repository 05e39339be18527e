use Rattle.std.proofs.Common.{map, refl, sym, ◌∙◌}
use Rattle.segment_builder.specs.Members.{word_member}
use Rattle.segment_builder.specs.Terms.{field_entries}
use Rattle.segment_builder.proofs.Fielded.{keys_all, keys_on, rising_on, sorted_all, sorted_on}
use Rattle.segment_builder.proofs.rows.add_words.Goals as goal

pub fields-init : goal.fields-init
fields-init c = (
  tt,
  tt,
  (λ field bytes. rw c.into_iter-field-iterator.ensures.into_iter_gives.0 refl),
  rw c.into_iter-field-iterator.ensures.into_iter_gives.0 refl,
  (λ rising. rising),
)

pub fields-preserved : goal.fields-preserved
fields-preserved c = (
  tt,
  tt,
  (λ field bytes. sorted_on (λ entries. map word_member entries.items) field_entries field bytes _ _ _ _ _ _ _ _ c.in-Some.ensures.steps.0 c.in_ok-push.ensures.items (c.in_ok-sort_entries.ensures.same bytes) (c.fields.invariant.2 field bytes)),
  keys_on (λ entries. map word_member entries.items) field_entries _ _ _ _ _ _ _ _ c.in-Some.ensures.steps.0 c.in_ok-push.ensures.items c.fields.invariant.3,
  (λ rising. rising_on field_entries _ _ _ _ c.in_ok-push.ensures.items c.in_ok-sort_entries.ensures.rising (c.fields.invariant.4 rising)),
)

pub returns : goal.returns
returns c = record {
  carry = λ field bytes. sorted_all (λ entries. map word_member entries.items) field_entries field bytes _ _ _ (sym c.fields.field-iterator.rest.ok.0 ∙ c.in-None.ensures.steps.0) (c.fields.invariant.2 field bytes);
  fields = keys_all (λ entries. map word_member entries.items) field_entries _ _ _ (sym c.fields.field-iterator.rest.ok.0 ∙ c.in-None.ensures.steps.0) c.fields.invariant.3;
  rising = c.fields.invariant.4;
}
