use Rattle.std.proofs.Common.{◌≡◌, [], ◌+◌, ◌++◌, drop, ap, subst, sym, ◌∙◌, append-nil, arith}
use Rattle.std.specs.List.{AllByRecursion, flat_map}
use Rattle.std.proofs.lemmas.List.{at_drop_all, map-append}
use Rattle.std.proofs.lemmas.List.Concat.{flat_map-append}
use Rattle.term_table.specs.Part.{row_text, IsRow}
use Rattle.segment_builder.specs.Columns.{terms_in, terms_lent}
use Rattle.segment_builder.specs.Terms.{field_entries, field_rows, rows_in}
use Rattle.segment_builder.proofs.Fielded.{each_part, fields_at, part_on}
use Rattle.segment_builder.proofs.rows.put_fields.Goals as goal

pub put_field-requires : goal.put_field-requires
put_field-requires c =
    let item = c.fields-item.result in
    let here = fields_at c.args.fields.now c.fields.field-index item c.fields-test.true c.fields-item.is in
    (each_part IsRow (field_rows item.0 (field_entries item.1)) (rows_in (drop (c.fields.field-index + 1) c.args.fields.now)) (subst (AllByRecursion IsRow) here c.fields.invariant.0)).0

pub fields-preserved : goal.fields-preserved
fields-preserved c =
    let item = c.fields-item.result in
    let rest = rows_in (drop (c.fields.field-index + 1) c.args.fields.now) in
    let here = fields_at c.args.fields.now c.fields.field-index item c.fields-test.true c.fields-item.is in (
      (each_part IsRow (field_rows item.0 (field_entries item.1)) rest (subst (AllByRecursion IsRow) here c.fields.invariant.0)).1,
      part_on c.fields.into.items c.put_field.new.into.items (flat_map row_text (field_rows item.0 (field_entries item.1))) (flat_map row_text (rows_in (drop c.fields.field-index c.args.fields.now))) (flat_map row_text rest) (c.args.into.now.items ++ flat_map row_text (rows_in c.args.fields.now))
          (ap (flat_map row_text) here ∙ flat_map-append row_text (field_rows item.0 (field_entries item.1)) rest)
          c.in_ok-put_field.ensures.text
          c.fields.invariant.1,
      part_on (terms_lent c.fields.terms.items) (terms_lent c.put_field.new.terms.items) (terms_in (field_rows item.0 (field_entries item.1))) (terms_in (rows_in (drop c.fields.field-index c.args.fields.now))) (terms_in rest) (terms_lent c.args.terms.now.items ++ terms_in (rows_in c.args.fields.now))
          (ap terms_in here ∙ map-append (λ row. row.term) (field_rows item.0 (field_entries item.1)) rest)
          c.in_ok-put_field.ensures.terms
          c.fields.invariant.2,
    )

pub returns-clause-terms : goal.returns-clause-terms
returns-clause-terms c =
    let none : terms_in (rows_in (drop c.fields.field-index c.args.fields.now)) ≡ [] = at_drop_all (λ fields. terms_in (rows_in fields)) c.args.fields.now c.fields.field-index (omega (arith, c.fields-test.false)) in
    sym (append-nil (terms_lent c.fields.terms.items)) ∙ ap (λ last. terms_lent c.fields.terms.items ++ last) (sym none) ∙ c.fields.invariant.2

pub returns-clause-text : goal.returns-clause-text
returns-clause-text c =
    let none : flat_map row_text (rows_in (drop c.fields.field-index c.args.fields.now)) ≡ [] = at_drop_all (λ fields. flat_map row_text (rows_in fields)) c.args.fields.now c.fields.field-index (omega (arith, c.fields-test.false)) in
    sym (append-nil c.fields.into.items) ∙ ap (λ last. c.fields.into.items ++ last) (sym none) ∙ c.fields.invariant.1
