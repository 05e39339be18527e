use Rattle.std.proofs.Common.{◌≡◌, ◌∷◌, ◌+◌, drop, get_or, length, sym, ap, ◌∙◌, arith, length-drop}
use Rattle.std.proofs.lemmas.List.{at_drop_more}
use Rattle.std.specs.Cmp.Lexicographic.{slice_cmp}
use Rattle.std.specs.Ordering.{nat_cmp}
use Rattle.segment_builder.specs.Columns.{keyword_rows}
use Rattle.segment_builder.specs.Groups.{of_key}
use Rattle.segment_builder.specs.Terms.{field_entries, keyword_entries}
use Rattle.segment_builder.proofs.Fielded.{keys_all, keys_on, rising_on, sorted_all, sorted_on}
use Rattle.segment_builder.proofs.rows.add_keywords.Goals as goal

pub fields-preserved : goal.fields-preserved
fields-preserved c =
    let at = c.fields.field-index in
    let item = c.fields-item.result in
    let more : drop at c.args.keywords.now ≡ get_or c.args.keywords.now at item ∷ drop (at + 1) c.args.keywords.now = at_drop_more (λ fields. fields) c.args.keywords.now at item c.fields-test.true in
    let left : drop at c.args.keywords.now ≡ item ∷ drop (at + 1) c.args.keywords.now = more ∙ ap (λ own. own ∷ drop (at + 1) c.args.keywords.now) (sym c.fields-item.is) in (
      (λ field bytes. sorted_on (λ rows. keyword_entries (keyword_rows rows.items)) field_entries field bytes item.0 item.1 _ _ _ _ _ _ left c.in_ok-push.ensures.items
          (c.in_ok-sort_entries.ensures.same bytes ∙ ap (of_key (slice_cmp nat_cmp) bytes) (c.in_ok-entries.ensures ∙ ap (λ rows. keyword_entries (keyword_rows rows)) c.as_slice.ensures.value)) (c.fields.invariant.0 field bytes)),
      keys_on (λ rows. keyword_entries (keyword_rows rows.items)) field_entries item.0 item.1 _ _ _ _ _ _ left c.in_ok-push.ensures.items c.fields.invariant.1,
      (λ rising. rising_on field_entries item.0 _ _ _ c.in_ok-push.ensures.items c.in_ok-sort_entries.ensures.rising (c.fields.invariant.2 rising)),
    )

pub returns : goal.returns
returns c =
    let none : length (drop c.fields.field-index c.args.keywords.now) ≡ 0 = omega (arith, c.fields-test.false, length-drop c.fields.field-index c.args.keywords.now) in record {
      carry = λ field bytes. sorted_all (λ rows. keyword_entries (keyword_rows rows.items)) field_entries field bytes _ _ _ none (c.fields.invariant.0 field bytes);
      fields = keys_all (λ rows. keyword_entries (keyword_rows rows.items)) field_entries _ _ _ none c.fields.invariant.1;
      rising = c.fields.invariant.2;
    }
